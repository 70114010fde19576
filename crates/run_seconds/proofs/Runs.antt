-- At each moment of a run the past says of each secondary node what its procedures hold.
use Rattle.std.proofs.Common.{ℕ, ◌≡◌, ◌==◌, Bool, true, false, List, [], ◌∷◌, Option, Some, None, slice_get, refl, sym, ap, subst, ◌∙◌, inl, inr}
use Rattle.std.specs.Prelude.{fold, if◌then◌else◌, nat_lt, ◌&&◌, ⊤}
use Rattle.std.specs.List.{AllByRecursion, list_any}
use Rattle.std.proofs.lemmas.Bool.{cases_Bool}
use Rattle.dc_base.specs.Links.{is_ordered, is_tunnel}
use Rattle.dc_base.specs.declared.answers.Answer.{Answer}
use Rattle.dc_base.specs.declared.answers.Answer.TheVariants as answer
use Rattle.dc_base.specs.declared.answers.Refusal.{Refusal}
use Rattle.dc_base.specs.declared.answers.Refusal.TheVariants as refusal
use Rattle.dc_base.specs.declared.events.Event.{Event}
use Rattle.dc_base.specs.declared.events.Event.TheVariants as event
use Rattle.dc_base.specs.declared.events.Header.{Header}
use Rattle.dc_base.specs.declared.events.Line.{Line}
use Rattle.dc_base.specs.declared.events.Line.TheVariants as line
use Rattle.dc_base.specs.declared.events.Note.{Note}
use Rattle.dc_base.specs.declared.events.Note.TheVariants as note
use Rattle.dc_base.specs.declared.flights.Flight.{Flight}
use Rattle.dc_base.specs.declared.nodes.Dir.TheVariants.{Dl, Ul}
use Rattle.dc_base.specs.declared.nodes.LinkId.{LinkId}
use Rattle.dc_base.specs.declared.nodes.Node.{Node}
use Rattle.dc_base.specs.declared.nodes.Node.TheVariants.{A, B, M, T}
use Rattle.dc_base.specs.declared.nodes.Want.{Want}
use Rattle.claims.specs.Noted.{after, past, past_from}
use Rattle.claims.specs.Past.{Past, new_past}
use Rattle.node_rules.specs.Choices.{Choices, Send}
use Rattle.node_rules.specs.Effects.{accepted, quiet}
use Rattle.node_rules.specs.Flights.{weight}
use Rattle.node_rules.specs.Lines.{is_end, lines_of}
use Rattle.node_rules.specs.MasterStep.{master_step}
use Rattle.node_rules.specs.Readers.{is_aged_for}
use Rattle.node_rules.specs.Run.{carried_on, copy_of, entries_from, entry_with, happening, loss_of, node_at, refused_for, step_of, takes, world_after, world_step}
use Rattle.node_rules.specs.SecondStep.{second_step}
use Rattle.node_rules.specs.Secondary.{SecondNode, active_at}
use Rattle.node_rules.specs.Terminal.{terminal_step}
use Rattle.node_rules.specs.World.{World, flights_on, new_world}
use Rattle.node_rules.specs.declared.inputs.Input.{Input}
use Rattle.node_rules.specs.declared.inputs.Input.TheVariants.{Cmd, Come}
use Rattle.node_rules.specs.declared.inputs.Outcome.{Outcome}
use Rattle.run_words.proofs.Lines.{each_line_of}
use Rattle.run_seconds.specs.Own.{IsOwn, own}
use Rattle.run_seconds.specs.Sides.{AreTold, Side, Sides, answered, denying, held_by, held_in, on_side, sides, wanting, with_event, with_line, with_note}
use Rattle.run_seconds.proofs.Acts.{IsKept}
use Rattle.run_seconds.proofs.Lines.{lines_sides}
use Rattle.run_seconds.proofs.Others.{AreOther, IsOther, master_other, terminal_other}
use Rattle.run_seconds.proofs.SecondSteps.{asking, ask_kept, deny_kept, report_kept, takes_kept}
use Rattle.run_seconds.proofs.Seeing.{after_sides}

-- ---- lines of other nodes

other_silent : (n : Note) → IsOther n → (s : Sides) → with_note s n ≡ s
other_silent (note.Begin w) is s = refl
other_silent (note.Join x g) is s = absurd cc
other_silent (note.Leave x g) is s = absurd cc
other_silent (note.Give x id g) is s = refl
other_silent (note.Own x id g) is s = refl
other_silent (note.Set id g) is s = refl
other_silent (note.Unset id) is s = refl
other_silent (note.Up x id d count sdu) is s = refl
other_silent (note.Freed id d count) is s = refl
other_silent (note.Confirmed x) is s = absurd cc
other_silent (note.Refused x w) is s = absurd cc
other_silent note.Done is s = refl
other_silent note.Rejected is s = refl

abbrev IsSilent : Line → Type 0
IsSilent x = (s : Sides) → with_line s x ≡ s

silent_notes : (ns : List Note) → AreOther ns → AllByRecursion (λ n. IsSilent (line.Note n)) ns
silent_notes [] all = tt
silent_notes (n ∷ ns) all = (other_silent n all.0, silent_notes ns all.1)

silent_sends : (xs : List Send) → AllByRecursion (λ (x : Send). IsSilent (line.Send x.0 x.1)) xs
silent_sends [] = tt
silent_sends (x ∷ xs) = (λ s. refl, silent_sends xs)

all_silent : (xs : List Line) → AllByRecursion IsSilent xs → (s : Sides) → fold with_line s xs ≡ s
all_silent [] all s = refl
all_silent (x ∷ xs) all s = ap (λ z. fold with_line z xs) (all.0 s) ∙ all_silent xs all.1 s

-- ---- lines of a secondary node

same_side : (x : Node) (s : Sides) → s ≡ on_side x (λ z. z) s
same_side T s = refl
same_side M s = refl
same_side A s = refl
same_side B s = refl

two_sides : (x : Node) (f g : Side → Side) (s : Sides) → on_side x g (on_side x f s) ≡ on_side x (λ z. g (f z)) s
two_sides T f g s = refl
two_sides M f g s = refl
two_sides A f g s = refl
two_sides B f g s = refl

own_side : (x : Node) (n : Note) → IsOwn x n → (s : Sides) → with_note s n ≡ on_side x (λ z. own z n) s
own_side x (note.Join y g) is s = ap (λ k. on_side k (λ z. own z (note.Join y g)) s) is.1
own_side x (note.Leave y g) is s = ap (λ k. on_side k (λ z. own z (note.Leave y g)) s) is.1
own_side x (note.Confirmed y) is s = ap (λ k. on_side k (λ z. own z (note.Confirmed y)) s) is.1
own_side x (note.Refused y w) is s = ap (λ k. on_side k (λ z. own z (note.Refused y w)) s) is.1
own_side x (note.Begin w) is s = same_side x s
own_side x (note.Give y id g) is s = same_side x s
own_side x (note.Own y id g) is s = same_side x s
own_side x (note.Set id g) is s = same_side x s
own_side x (note.Unset id) is s = same_side x s
own_side x (note.Up y id d count sdu) is s = same_side x s
own_side x (note.Freed id d count) is s = same_side x s
own_side x note.Done is s = same_side x s
own_side x note.Rejected is s = same_side x s

own_sides : (x : Node) (ns : List Note) → AllByRecursion (IsOwn x) ns → (s : Sides) → fold with_note s ns ≡ on_side x (λ z. fold own z ns) s
own_sides x [] all s = same_side x s
own_sides x (n ∷ ns) all s =
    ap (λ z. fold with_note z ns) (own_side x n all.0 s) ∙ own_sides x ns all.1 (on_side x (λ z. own z n) s)
    ∙ two_sides x (λ z. own z n) (λ z. fold own z ns) s

no_ends : (x : Node) (ns : List Note) → AllByRecursion (IsOwn x) ns → list_any is_end ns ≡ false
no_ends x [] all = refl
no_ends x (n ∷ ns) all = let off = all.0.0 in rw off (no_ends x ns all.1)

-- ---- an event

module _ (c : Choices) (w : World) (p : Past) (told : AreTold p w.a.proc w.b.proc) where
  -- the past says so after what an event came to
  abbrev pub ToldAfter : Event → World × Outcome → Type 0
  ToldAfter e done = AreTold (after p (entry_with e done.1)) done.0.a.proc done.0.b.proc

  -- nothing is said of the secondary nodes
  others : (e : Event) (o : Outcome) → AreOther o.notes → answered e o.answer (sides p) ≡ sides p → sides (after p (entry_with e o)) ≡ sides p
  others e o other still =
      after_sides p (entry_with e o) ∙ ap (λ s. fold with_line s (lines_of o)) still
      ∙ all_silent (lines_of o) (each_line_of IsSilent o (silent_notes o.notes other) (silent_sends o.sends)) (sides p)

  same_after : (e : Event) (o : Outcome) (v : World) → v.a ≡ w.a → v.b ≡ w.b → AreOther o.notes → answered e o.answer (sides p) ≡ sides p → ToldAfter e (v, o)
  same_after e o v same_a same_b other still = record {
    sides_are = others e o other still ∙ told.sides_are ∙ ap (λ (s : SecondNode). held_in s.proc w.b.proc) (sym same_a) ∙ ap (λ (s : SecondNode). held_in v.a.proc s.proc) (sym same_b);
    is_a = ap (λ (s : SecondNode). s.proc.me) same_a ∙ told.is_a;
    is_b = ap (λ (s : SecondNode). s.proc.me) same_b ∙ told.is_b;
  }

  -- of one of them what it noted
  second_sides : (x : Node) (e : Event) (o : Outcome) (z : Side) (s next : SecondNode) → IsKept z s next o.notes → s.proc.me ≡ x → answered e o.answer (sides p) ≡ on_side x (λ y. z) (sides p)
      → sides (after p (entry_with e o)) ≡ on_side x (λ y. held_by next.proc) (sides p)
  second_sides x e o z s next kept me first =
      let mine = subst (λ k. AllByRecursion (IsOwn k) o.notes) me kept.own in
      let begin = on_side x (λ y. z) (sides p) in
      after_sides p (entry_with e o) ∙ ap (λ q. fold with_line q (lines_of o)) first ∙ lines_sides o (no_ends x o.notes mine) begin ∙ own_sides x o.notes mine begin
      ∙ two_sides x (λ y. z) (λ y. fold own y o.notes) (sides p) ∙ ap (λ k. on_side x (λ y. k) (sides p)) kept.side

  for_a : (f : Side → Side) → on_side A f (sides p) ≡ on_side A (λ y. f (held_by w.a.proc)) (sides p)
  for_a f = ap (on_side A f) told.sides_are ∙ sym (ap (on_side A (λ y. f (held_by w.a.proc))) told.sides_are)

  for_b : (f : Side → Side) → on_side B f (sides p) ≡ on_side B (λ y. f (held_by w.b.proc)) (sides p)
  for_b f = ap (on_side B f) told.sides_are ∙ sym (ap (on_side B (λ y. f (held_by w.b.proc))) told.sides_are)

  at_a : (e : Event) (i : Input) (z : Side) → let done = second_step c w.a i in IsKept z w.a done.0 done.1.notes → answered e done.1.answer (sides p) ≡ on_side A (λ y. z) (sides p) → ToldAfter e (takes c w i A)
  at_a e i z kept first =
      let done = second_step c w.a i in
      record {
        sides_are = second_sides A e done.1 z w.a done.0 kept told.is_a first ∙ ap (on_side A (λ y. held_by done.0.proc)) told.sides_are;
        is_a = kept.me ∙ told.is_a;
        is_b = told.is_b;
      }

  at_b : (e : Event) (i : Input) (z : Side) → let done = second_step c w.b i in IsKept z w.b done.0 done.1.notes → answered e done.1.answer (sides p) ≡ on_side B (λ y. z) (sides p) → ToldAfter e (takes c w i B)
  at_b e i z kept first =
      let done = second_step c w.b i in
      record {
        sides_are = second_sides B e done.1 z w.b done.0 kept told.is_b first ∙ ap (on_side B (λ y. held_by done.0.proc)) told.sides_are;
        is_a = told.is_a;
        is_b = kept.me ∙ told.is_b;
      }

  -- ---- the event itself says nothing of them

  abbrev IsStill : Event → Type 0
  IsStill e = with_event e (sides p) ≡ sides p

  still_by : (e : Event) → IsStill e → (a : Answer) → answered e a (sides p) ≡ sides p
  still_by e still answer.Ok = still
  still_by e still (answer.No why) = refl

  at_master : (e : Event) (i : Input) → IsStill e → ToldAfter e (takes c w i M)
  at_master e i still = let done = master_step c w.master i in same_after e done.1 (record w { master = done.0 }) refl refl (master_other c w.master i) (still_by e still done.1.answer)

  at_terminal : (e : Event) (i : Input) → IsStill e → ToldAfter e (takes c w i T)
  at_terminal e i still =
      let done = terminal_step c w.terminal i in same_after e done.1 (record w { terminal = done.0 }) refl refl (terminal_other c w.terminal i) (still_by e still done.1.answer)

  on_links_alone : (e : Event) (o : Outcome) → IsStill e → AreOther o.notes → ToldAfter e (w, o)
  on_links_alone e o still other = same_after e o w refl refl other (still_by e still o.answer)

  refused_told : (e : Event) (why : Refusal) → IsStill e → ToldAfter e (carried_on c w (refused_for why))
  refused_told e why still = on_links_alone e (carried_on c w (refused_for why)).1 still tt

  -- ---- flights

  given_told : (l : LinkId) (i : ℕ) (f : Flight) (x : Node) → ToldAfter (event.Step l i) (takes c w (Come l f) x)
  given_told l i f T = at_terminal (event.Step l i) (Come l f) refl
  given_told l i f M = at_master (event.Step l i) (Come l f) refl
  given_told l i f A = at_a (event.Step l i) (Come l f) (held_by w.a.proc) (takes_kept c w.a f l.class) (for_a (λ y. y))
  given_told l i f B = at_b (event.Step l i) (Come l f) (held_by w.b.proc) (takes_kept c w.b f l.class) (for_b (λ y. y))

  step_told : (l : LinkId) (i : ℕ) (o : Option Flight) → ToldAfter (event.Step l i) (carried_on c w (step_of w l i o))
  step_told l i None = refused_told (event.Step l i) refusal.NoFlight refl
  step_told l i (Some f) =
      elim (cases_Bool (is_ordered l.class && nat_lt 0 i)) [
        | inl behind ↦ rw behind (refused_told (event.Step l i) refusal.NotFirst refl)
        | inr first ↦ elim (cases_Bool (is_aged_for (node_at w l.to) (weight f))) [
          | inl aged ↦ rw (first, aged) (refused_told (event.Step l i) refusal.Aged refl)
          | inr fresh ↦ rw (first, fresh) (given_told l i f l.to)
        ]
      ]

  loss_told : (l : LinkId) (i : ℕ) (in_it : Bool) (o : Option Flight) → ToldAfter (event.Lose l i) (carried_on c w (if in_it then loss_of o else refused_for refusal.NotTunnel))
  loss_told l i false o = refused_told (event.Lose l i) refusal.NotTunnel refl
  loss_told l i true None = refused_told (event.Lose l i) refusal.NoFlight refl
  loss_told l i true (Some f) = on_links_alone (event.Lose l i) (carried_on c w (loss_of (Some f))).1 refl tt

  copy_told : (l : LinkId) (i : ℕ) (in_it : Bool) (o : Option Flight) → ToldAfter (event.Again l i) (carried_on c w (if in_it then copy_of l o else refused_for refusal.NotTunnel))
  copy_told l i false o = refused_told (event.Again l i) refusal.NotTunnel refl
  copy_told l i true None = refused_told (event.Again l i) refusal.NoFlight refl
  copy_told l i true (Some f) = on_links_alone (event.Again l i) (carried_on c w (copy_of l (Some f))).1 refl tt

  -- ---- events of the secondary nodes

  asked_a : (what : Want) (a : Answer) → answered (event.Ask A what) a (sides p) ≡ on_side A (λ y. asking c w.a what a) (sides p)
  asked_a what answer.Ok = for_a (wanting (Some what))
  asked_a what (answer.No why) = for_a (λ y. y)

  asked_b : (what : Want) (a : Answer) → answered (event.Ask B what) a (sides p) ≡ on_side B (λ y. asking c w.b what a) (sides p)
  asked_b what answer.Ok = for_b (wanting (Some what))
  asked_b what (answer.No why) = for_b (λ y. y)

  -- any event
  pub event_told : (e : Event) → ToldAfter e (carried_on c w (happening w e))
  event_told (event.Bearer id n first shape threshold policy) = let e = event.Bearer id n first shape threshold policy in at_master e (Cmd e) refl
  event_told (event.Reshape id shape) = let e = event.Reshape id shape in at_master e (Cmd e) refl
  event_told (event.Remove id) = let e = event.Remove id in at_master e (Cmd e) refl
  event_told (event.Add x) = let e = event.Add x in at_master e (Cmd e) refl
  event_told event.Change = at_master event.Change (Cmd event.Change) refl
  event_told event.Release = at_master event.Release (Cmd event.Release) refl
  event_told event.RekeySecond = at_master event.RekeySecond (Cmd event.RekeySecond) refl
  event_told (event.RekeyMaster root) = let e = event.RekeyMaster root in at_master e (Cmd e) refl
  event_told (event.Recover id) = let e = event.Recover id in at_master e (Cmd e) refl
  event_told (event.Report T id) = let e = event.Report T id in at_terminal e (Cmd e) refl
  event_told (event.Report M id) = let e = event.Report M id in at_master e (Cmd e) refl
  event_told (event.Report A id) =
      let e = event.Report A id in at_a e (Cmd e) (held_by w.a.proc) (report_kept c w.a id (active_at w.a id)) (still_by e refl (second_step c w.a (Cmd e)).1.answer ∙ for_a (λ y. y))
  event_told (event.Report B id) =
      let e = event.Report B id in at_b e (Cmd e) (held_by w.b.proc) (report_kept c w.b id (active_at w.b id)) (still_by e refl (second_step c w.b (Cmd e)).1.answer ∙ for_b (λ y. y))
  event_told (event.Deny T on) = let e = event.Deny T on in at_terminal e (Cmd e) refl
  event_told (event.Deny M on) = let e = event.Deny M on in at_master e (Cmd e) refl
  event_told (event.Deny A on) = let e = event.Deny A on in at_a e (Cmd e) (denying on (held_by w.a.proc)) (deny_kept c w.a A on) (for_a (denying on))
  event_told (event.Deny B on) = let e = event.Deny B on in at_b e (Cmd e) (denying on (held_by w.b.proc)) (deny_kept c w.b B on) (for_b (denying on))
  event_told (event.Ask T what) = let e = event.Ask T what in at_terminal e (Cmd e) refl
  event_told (event.Ask M what) = let e = event.Ask M what in at_master e (Cmd e) refl
  event_told (event.Ask A what) =
      let e = event.Ask A what in let a = (second_step c w.a (Cmd e)).1.answer in at_a e (Cmd e) (asking c w.a what a) (ask_kept c w.a A what) (asked_a what a)
  event_told (event.Ask B what) =
      let e = event.Ask B what in let a = (second_step c w.b (Cmd e)).1.answer in at_b e (Cmd e) (asking c w.b what a) (ask_kept c w.b B what) (asked_b what a)
  event_told event.ScgFail = at_terminal event.ScgFail (Cmd event.ScgFail) refl
  event_told (event.Submit id Ul payload) = let e = event.Submit id Ul payload in at_terminal e (Cmd e) refl
  event_told (event.Submit id Dl payload) = let e = event.Submit id Dl payload in at_master e (Cmd e) refl
  event_told (event.Step l i) = step_told l i (slice_get (flights_on l w.links) i)
  event_told (event.Lose l i) = loss_told l i (is_tunnel l.class) (slice_get (flights_on l w.links) i)
  event_told (event.Again l i) = copy_told l i (is_tunnel l.class) (slice_get (flights_on l w.links) i)

-- ---- a run

-- of a world
abbrev pub Told : Past → World → Type 0
Told p w = AreTold p w.a.proc w.b.proc

-- at the start
pub told_new : (h : Header) (policies : ℕ) → Told (new_past h policies) (new_world h)
told_new h policies = record { sides_are = refl; is_a = refl; is_b = refl }

-- an event keeps it
pub told_next : (c : Choices) (w : World) (p : Past) (e : Event) → Told p w → Told (after p (world_step c w e).1) (world_step c w e).0
told_next c w p e told = event_told c w p told e

told_on : (c : Choices) (es : List Event) (w : World) (p : Past) → Told p w → Told (past_from p (entries_from c w es)) (world_after c w es)
told_on c [] w p told = told
told_on c (e ∷ es) w p told = told_on c es (world_step c w e).0 (after p (world_step c w e).1) (told_next c w p e told)

-- after any events the past says of each secondary node what its procedures hold: whether it joined, whether it is set to deny, and
-- its request without an answer
pub seconds_always : (c : Choices) (h : Header) (policies : ℕ) (es : List Event) → Told (past h policies (entries_from c (new_world h) es)) (world_after c (new_world h) es)
seconds_always c h policies es = told_on c es (new_world h) (new_past h policies) (told_new h policies)
