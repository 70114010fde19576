-- The lines of an outcome, in their order, which is this product's own: what begins; which secondary joins or leaves;
-- what each bearer becomes; what is handed up; what is freed; what is sent, by links; which request is answered; what ends.
use Rattle.std.specs.Prelude.{ℕ, ◌==◌, ◌++◌, map, Bool, true, false, List, [], ◌∷◌, filter, if◌then◌else◌}
use Rattle.std.specs.List.{flat_map, list_any}
use Rattle.dc_base.specs.declared.nodes.LinkId.{LinkId}
use Rattle.dc_base.specs.declared.flights.Flight.TheVariants.{Ctl}
use Rattle.dc_base.specs.declared.records.Rec.TheVariants.{Reconf, Relcnf}
use Rattle.dc_base.specs.declared.events.Note.{Note}
use Rattle.dc_base.specs.declared.events.Note.TheVariants as note
use Rattle.dc_base.specs.declared.events.Line.{Line}
use Rattle.dc_base.specs.declared.events.Line.TheVariants as line
use Rattle.dc_base.specs.Links.{all_links, is_same_link}
use Rattle.node_rules.specs.declared.inputs.Outcome.{Outcome}
use Rattle.node_rules.specs.Choices.{Send}

-- where a note stands among the notes of an event; the sends stand after place 4 (this product's own)
abbrev pub place : Note → ℕ
place (note.Begin what) = 0
place (note.Join node g) = 1
place (note.Leave node g) = 1
place (note.Give node id g) = 2
place (note.Own node id g) = 2
place (note.Set id g) = 2
place (note.Unset id) = 2
place (note.Up node id dir count sdu) = 3
place (note.Freed id dir count) = 4
place (note.Confirmed node) = 5
place (note.Refused node word) = 5
place note.Done = 6
place note.Rejected = 6

-- the notes of one place, in the order given (this product's own)
abbrev pub notes_at : List Note → ℕ → List Line
notes_at notes k = map (λ x. line.Note x) (filter (λ x. place x == k) notes)

-- the sends on a link, in the order given (this product's own)
abbrev pub sends_on : List Send → LinkId → List Line
sends_on sends l = map (λ s. line.Send s.0 s.1) (filter (λ (s : Send). is_same_link l s.0) sends)

-- notes and sends, where no second command begins among them (this product's own)
abbrev pub ordered : List Note → List Send → List Line
ordered notes sends =
    flat_map (notes_at notes) (0 ∷ 1 ∷ 2 ∷ 3 ∷ 4 ∷ []) ++ flat_map (sends_on sends) all_links
    ++ flat_map (notes_at notes) (5 ∷ 6 ∷ [])

-- ---- the end of a command, at which a release that a secondary asked for before may begin

-- whether a note says that the open command ended (this product's own)
abbrev pub is_end : Note → Bool
is_end note.Done = true
is_end note.Rejected = true
is_end _ = false

-- the notes up to the first end of a command, with it (this product's own)
abbrev pub notes_before : List Note → List Note
notes_before [] = []
notes_before (x ∷ xs) = if is_end x then x ∷ [] else x ∷ notes_before xs

-- the notes after it (this product's own)
abbrev pub notes_after : List Note → List Note
notes_after [] = []
notes_after (x ∷ xs) = if is_end x then xs else notes_after xs

-- whether a send tells a secondary that nothing has to be released: `relcnf` of generation 0 (this product's own)
abbrev pub is_idle_release : Send → Bool
is_idle_release (l, Ctl (Relcnf plan)) = plan.g == 0
is_idle_release _ = false

-- whether the sends of a release begin with it: it is `reconf`, or such a `relcnf` (this product's own)
abbrev pub opens_release : Send → Bool
opens_release (l, Ctl (Reconf plan key)) = true
opens_release s = is_idle_release s

-- the sends before the first of a release (this product's own)
abbrev pub sends_before : List Send → List Send
sends_before [] = []
sends_before (s ∷ ss) = if opens_release s then [] else s ∷ sends_before ss

-- the sends from that one on, without those that tell that nothing has to be released (this product's own)
abbrev pub sends_after : List Send → List Send
sends_after [] = []
sends_after (s ∷ ss) = if opens_release s then filter (λ r. if is_idle_release r then false else true) (s ∷ ss) else sends_after ss

-- the lines of an event in which a command ends: those of the command; then, in the order tried, each answer that nothing
-- has to be released; then those of the release that begins (this product's own)
abbrev pub ended : List Note → List Send → List Line
ended notes sends =
    ordered (notes_before notes) (sends_before sends)
    ++ map (λ (s : Send). line.Send s.0 s.1) (filter is_idle_release sends)
    ++ ordered (notes_after notes) (sends_after sends)

-- by whether a command ends (this product's own)
abbrev pub lines_by : Bool → Outcome → List Line
lines_by true o = ended o.notes o.sends
lines_by false o = ordered o.notes o.sends

-- the lines after the answer (this product's own)
abbrev pub lines_of : Outcome → List Line
lines_of o = lines_by (list_any is_end o.notes) o
