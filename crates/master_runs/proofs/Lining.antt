-- The lines of an outcome, where no command ends by it.
use Rattle.std.proofs.Common.{ℕ, ◌≡◌, ◌==◌, ◌++◌, false, List, [], ◌∷◌, refl, ap, ◌∙◌, inl, inr}
use Rattle.std.specs.Prelude.{map, if◌then◌else◌}
use Rattle.std.specs.List.{flat_map, list_any}
use Rattle.std.proofs.lemmas.Bool.{cases_Bool}
use Rattle.std.proofs.lemmas.List.{append-nil}
use Rattle.dc_base.specs.Links.{all_links, is_same_link}
use Rattle.dc_base.specs.declared.answers.Answer.{Answer}
use Rattle.dc_base.specs.declared.events.Line.{Line}
use Rattle.dc_base.specs.declared.events.Line.TheVariants as line
use Rattle.dc_base.specs.declared.events.Note.TheVariants as note
use Rattle.dc_base.specs.declared.flights.Flight.{Flight}
use Rattle.dc_base.specs.declared.nodes.Dir.{Dir}
use Rattle.dc_base.specs.declared.nodes.LinkId.{LinkId}
use Rattle.dc_base.specs.declared.nodes.Node.{Node}
use Rattle.transcript.specs.Content.{mt_air, mt_ctl, tm_air, tm_ctl}
use Rattle.node_rules.specs.Choices.{Send}
use Rattle.node_rules.specs.Lines.{is_end, lines_by, lines_of, notes_at, sends_on}
use Rattle.node_rules.specs.Master.{handed_up}
use Rattle.master_runs.specs.Forms.{all_on}

-- the lines of these sends
abbrev pub send_lines : List Send → List Line
send_lines ss = map (λ (s : Send). line.Send s.0 s.1) ss

-- two functions that agree give the same lists
flat_map_same : {X Y : Type 0} (f g : X → List Y) → ((x : X) → f x ≡ g x) → (xs : List X) → flat_map f xs ≡ flat_map g xs
flat_map_same f g same [] = refl
flat_map_same f g same (x ∷ xs) = ap (λ ys. ys ++ flat_map f xs) (same x) ∙ ap (λ ys. g x ++ ys) (flat_map_same f g same xs)

-- the sends on one link are those lines, and no others are on it
sends_on-all : (l k : LinkId) (fs : List Flight) → sends_on (all_on k fs) l ≡ (if is_same_link l k then send_lines (all_on k fs) else [])
sends_on-all l k [] = elim (cases_Bool (is_same_link l k)) [ inl same ↦ rw same refl | inr apart ↦ rw apart refl ]
sends_on-all l k (f ∷ fs) =
    elim (cases_Bool (is_same_link l k)) [
      | inl same ↦ let rest = rw same at (sends_on-all l k fs) in rw same (ap (λ ls. line.Send k f ∷ ls) rest)
      | inr apart ↦ let rest = rw apart at (sends_on-all l k fs) in rw apart rest
    ]

-- one send in front
sends_on-cons : (l : LinkId) (s : Send) (ss : List Send) → sends_on (s ∷ ss) l ≡ (if is_same_link l s.0 then line.Send s.0 s.1 ∷ [] else []) ++ sends_on ss l
sends_on-cons l s ss = elim (cases_Bool (is_same_link l s.0)) [ inl same ↦ rw same refl | inr apart ↦ rw apart refl ]

-- flights on the leg of a direction alone, without notes
pub lines_down : (a : Answer) (fs : List Flight) → lines_of (record { answer = a; notes = []; sends = all_on mt_air fs }) ≡ send_lines (all_on mt_air fs)
lines_down a fs =
    ap (λ ls. ls ++ []) (flat_map_same (sends_on (all_on mt_air fs)) (λ l. if is_same_link l mt_air then send_lines (all_on mt_air fs) else []) (λ l. sends_on-all l mt_air fs) all_links)
    ∙ append-nil _ ∙ append-nil _

pub lines_up : (a : Answer) (fs : List Flight) → lines_of (record { answer = a; notes = []; sends = all_on tm_air fs }) ≡ send_lines (all_on tm_air fs)
lines_up a fs =
    ap (λ ls. ls ++ []) (flat_map_same (sends_on (all_on tm_air fs)) (λ l. if is_same_link l tm_air then send_lines (all_on tm_air fs) else []) (λ l. sends_on-all l tm_air fs) all_links)
    ∙ append-nil _ ∙ append-nil _

-- and behind a record
pub lines_record_down : (a : Answer) (r : Flight) (fs : List Flight)
    → lines_of (record { answer = a; notes = []; sends = (mt_ctl, r) ∷ all_on mt_air fs }) ≡ line.Send mt_ctl r ∷ send_lines (all_on mt_air fs)
lines_record_down a r fs =
    ap (λ ls. ls ++ []) (flat_map_same (sends_on ((mt_ctl, r) ∷ all_on mt_air fs))
    (λ l. (if is_same_link l mt_ctl then line.Send mt_ctl r ∷ [] else []) ++ (if is_same_link l mt_air then send_lines (all_on mt_air fs) else []))
    (λ l. sends_on-cons l (mt_ctl, r) (all_on mt_air fs) ∙ ap (λ ls. (if is_same_link l mt_ctl then line.Send mt_ctl r ∷ [] else []) ++ ls) (sends_on-all l mt_air fs)) all_links)
    ∙ append-nil _ ∙ ap (λ ls. line.Send mt_ctl r ∷ ls) (append-nil _)

pub lines_record_up : (a : Answer) (r : Flight) (fs : List Flight)
    → lines_of (record { answer = a; notes = []; sends = (tm_ctl, r) ∷ all_on tm_air fs }) ≡ line.Send tm_ctl r ∷ send_lines (all_on tm_air fs)
lines_record_up a r fs =
    ap (λ ls. ls ++ []) (flat_map_same (sends_on ((tm_ctl, r) ∷ all_on tm_air fs))
    (λ l. (if is_same_link l tm_ctl then line.Send tm_ctl r ∷ [] else []) ++ (if is_same_link l tm_air then send_lines (all_on tm_air fs) else []))
    (λ l. sends_on-cons l (tm_ctl, r) (all_on tm_air fs) ∙ ap (λ ls. (if is_same_link l tm_ctl then line.Send tm_ctl r ∷ [] else []) ++ ls) (sends_on-all l tm_air fs)) all_links)
    ∙ append-nil _ ∙ ap (λ ls. line.Send tm_ctl r ∷ ls) (append-nil _)

-- ---- what is handed up

-- by it no command ends
handed_ends_none : (x : Node) (id : ℕ) (d : Dir) (us : List (ℕ × List ℕ)) → list_any is_end (handed_up x id d us) ≡ false
handed_ends_none x id d [] = refl
handed_ends_none x id d (u ∷ us) = handed_ends_none x id d us

-- the notes of its place
handed_at : (x : Node) (id : ℕ) (d : Dir) (us : List (ℕ × List ℕ)) (k : ℕ) → notes_at (handed_up x id d us) k ≡ (if 3 == k then map (λ n. line.Note n) (handed_up x id d us) else [])
handed_at x id d [] k = elim (cases_Bool (3 == k)) [ inl here ↦ rw here refl | inr there ↦ rw there refl ]
handed_at x id d (u ∷ us) k =
    elim (cases_Bool (3 == k)) [
      | inl here ↦ let rest = rw here at (handed_at x id d us k) in rw here (ap (λ ls. line.Note (note.Up x id d u.0 u.1) ∷ ls) rest)
      | inr there ↦ let rest = rw there at (handed_at x id d us k) in rw there rest
    ]

-- SDUs are handed up, and a PDU is confirmed
pub lines_handed : (a : Answer) (x : Node) (id : ℕ) (d : Dir) (us : List (ℕ × List ℕ)) (s : Send) → flat_map (sends_on (s ∷ [])) all_links ≡ send_lines (s ∷ [])
    → lines_of (record { answer = a; notes = handed_up x id d us; sends = s ∷ [] }) ≡ map (λ n. line.Note n) (handed_up x id d us) ++ send_lines (s ∷ [])
lines_handed a x id d us s one =
    let notes = handed_up x id d us in
    let ups = map (λ n. line.Note n) notes in
    let sent = flat_map (sends_on (s ∷ [])) all_links in
    let early = flat_map_same (notes_at notes) (λ k. if 3 == k then ups else []) (handed_at x id d us) (0 ∷ 1 ∷ 2 ∷ 3 ∷ 4 ∷ []) in
    let late = flat_map_same (notes_at notes) (λ k. if 3 == k then ups else []) (handed_at x id d us) (5 ∷ 6 ∷ []) in
    ap (λ b. lines_by b (record { answer = a; notes = notes; sends = s ∷ [] })) (handed_ends_none x id d us)
    ∙ ap (λ ls. (ls ++ sent) ++ flat_map (notes_at notes) (5 ∷ 6 ∷ [])) early
    ∙ ap (λ ls. ((ups ++ []) ++ sent) ++ ls) late
    ∙ append-nil _ ∙ ap (λ ls. ls ++ sent) (append-nil ups) ∙ ap (λ ls. ups ++ ls) one
