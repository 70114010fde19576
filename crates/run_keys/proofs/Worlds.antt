-- At each moment of a run the keys of the command table are as they are to be.
use Rattle.std.proofs.Common.{ℕ, zero, suc, ◌≡◌, ◌==◌, ◌&&◌, ◌+◌, Bool, true, false, List, [], ◌∷◌, Option, Some, None, refl, sym, ap, subst, ◌∙◌, inl, inr, arith}
use Rattle.std.specs.Prelude.{filter, find, fold, is_none, is_some, length, map, nat_lt, not, option_map, slice_get, ⊤}
use Rattle.std.specs.List.{AllByRecursion}
use Rattle.std.proofs.lemmas.Bool.{cases_Bool, eq-eqb, eqb-true}
use Rattle.dc_base.specs.Links.{is_ordered}
use Rattle.dc_base.specs.declared.answers.Answer.{Answer}
use Rattle.dc_base.specs.declared.answers.Answer.TheVariants as answer
use Rattle.dc_base.specs.declared.answers.Refusal.{Refusal}
use Rattle.dc_base.specs.declared.events.Event.{Event}
use Rattle.dc_base.specs.declared.events.Event.TheVariants as event
use Rattle.dc_base.specs.declared.events.Header.{Header}
use Rattle.dc_base.specs.declared.events.Line.{Line}
use Rattle.dc_base.specs.declared.events.Line.TheVariants as line
use Rattle.dc_base.specs.declared.events.Note.{Note}
use Rattle.dc_base.specs.declared.events.Note.TheVariants as note
use Rattle.dc_base.specs.declared.flights.Flight.{Flight}
use Rattle.dc_base.specs.declared.flights.Flight.TheVariants as flight
use Rattle.dc_base.specs.declared.nodes.Class.{Class}
use Rattle.dc_base.specs.declared.nodes.Class.TheVariants.{Air, Ctl, Feed, Tun}
use Rattle.dc_base.specs.declared.nodes.Dir.TheVariants.{Dl, Ul}
use Rattle.dc_base.specs.declared.nodes.LinkId.{LinkId}
use Rattle.dc_base.specs.declared.nodes.Node.{Node}
use Rattle.dc_base.specs.declared.nodes.Node.TheVariants.{A, B, M, T}
use Rattle.dc_base.specs.declared.numbers.SnLen.{SnLen}
use Rattle.dc_base.specs.declared.nodes.Shape.{Shape}
use Rattle.dc_base.specs.declared.records.Rec.TheVariants as rec
use Rattle.claims.specs.Past.{Past, new_past}
use Rattle.claims.specs.Noted.{after}
use Rattle.claims.specs.Table.{Kind, is_change}
use Rattle.claims.specs.Views.{carried_plan}
use Rattle.node_rules.specs.Acts.{first_refusal}
use Rattle.node_rules.specs.Choices.{Choices}
use Rattle.node_rules.specs.CommandTable.{Table, carried, row}
use Rattle.node_rules.specs.Flights.{weight}
use Rattle.node_rules.specs.Master.{MasterNode}
use Rattle.node_rules.specs.MasterCommands.{command_refusals, commands_unless}
use Rattle.node_rules.specs.Drafts.{draft}
use Rattle.node_rules.specs.MasterEnds.{is_release_spent}
use Rattle.node_rules.specs.MasterState.{MasterProc, has_bearer, is_unsettled}
use Rattle.node_rules.specs.MasterStep.{commanded, master_event}
use Rattle.node_rules.specs.Readers.{is_aged_for}
use Rattle.node_rules.specs.Run.{carried_on, copy_of, happening, in_tunnel, loss_of, node_at, step_of, submitter, takes, world_step}
use Rattle.node_rules.specs.SecondStep.{second_step}
use Rattle.node_rules.specs.Terminal.{terminal_step}
use Rattle.node_rules.specs.World.{World, flights_on, new_world}
use Rattle.node_rules.specs.declared.commands.Command.{Command}
use Rattle.node_rules.specs.declared.commands.Command.TheVariants.{Asked as asked, Gone as gone, Recovering as recovering}
use Rattle.node_rules.specs.declared.commands.Row.{Row}
use Rattle.node_rules.specs.declared.inputs.Input.TheVariants.{Cmd, Come}
use Rattle.node_rules.specs.declared.inputs.Outcome.{Outcome}
use Rattle.run_control.specs.Sound.{AddsSecond}
use Rattle.run_table.specs.Quiet.{IsQuiet, effects_of}
use Rattle.run_table.specs.SameTable.{Agree, NoOrderInTunnels}
use Rattle.run_table.specs.View.{View, view}
use Rattle.run_table.specs.Words.{orders}
use Rattle.run_table.proofs.Others.{second_quiet, terminal_quiet}
use Rattle.run_table.proofs.Runs.{lasts_new, lasts_next}
use Rattle.run_windows.specs.Seen.{Count, Face, Seen, answered, done_by, done_in, dropped, freed_to, latest, on_latest, one_more, seen, with_line, with_note}
use Rattle.run_windows.proofs.Seeing.{after_seen}
use Rattle.run_keys.specs.Keyed.{AreSet, IsApt, IsKeyed, IsKeyedRow}
use Rattle.run_keys.specs.Names.{HoldsKeys, est}
use Rattle.run_keys.specs.Tables.{OfCommand, OfProc, OfSend, OfSome, OfTurn}
use Rattle.run_keys.proofs.Drafting.{draws_keyed}
use Rattle.run_keys.proofs.Turns.{of_event, of_flight, unfiltered}

-- ---- names that are the same

module _ (E F : ℕ → Option ℕ) where
  rows_alike : (t : Table) → AllByRecursion (λ (r : Row). F r.id ≡ E r.id) t.rows → IsKeyed E t → IsKeyed F t
  rows_alike t same is = record {
    placed = is.placed;
    counts = is.counts;
    current = is.current;
    drawn = is.drawn;
    one = is.one;
    rows = by t.rows same is.rows;
    second = is.second;
  }
    where
      by : (rows : List Row) → AllByRecursion (λ (r : Row). F r.id ≡ E r.id) rows → AllByRecursion (IsKeyedRow E t.book t.last) rows → AllByRecursion (IsKeyedRow F t.book t.last) rows
      by [] same all = tt
      by (r ∷ rows) same all =
          (record { claimed = all.0.claimed; at_master = all.0.at_master; latest = same.0 ∙ all.0.latest; upto = all.0.upto }, by rows same.1 all.1)

  module _ (same : (id : ℕ) → F id ≡ E id) where
    each_same : (rows : List Row) → AllByRecursion (λ (r : Row). F r.id ≡ E r.id) rows
    each_same [] = tt
    each_same (r ∷ rows) = (same r.id, each_same rows)

    keyed_alike : (t : Table) → IsKeyed E t → IsKeyed F t
    keyed_alike t is = rows_alike t (each_same t.rows) is

    command_alike : (t : Table) (o : Option Command) → OfCommand (IsKeyed E) AreSet t o → OfCommand (IsKeyed F) AreSet t o
    command_alike t None is = tt
    command_alike t (Some (asked c first who wanted)) is = (keyed_alike (carried t c) is.0, is.1)
    command_alike t (Some (gone plan going)) is = is
    command_alike t (Some (recovering id terminal second)) is = tt

    pub proc_alike : (m : MasterProc) → OfProc (IsKeyed E) AreSet m → OfProc (IsKeyed F) AreSet m
    proc_alike m is = record { table = keyed_alike m.table is.table; command = command_alike m.table m.command is.command }

-- ---- no line sets up an establishment

found_on : (id k : ℕ) (f : Face × Count → Face × Count) → ((b : Face × Count) → ((f b).0.id ≡ b.0.id) × ((f b).0.g ≡ b.0.g)) → (bs : List (Face × Count))
    → option_map (λ (b : Face × Count). b.0.g) (latest id (on_latest k f bs)) ≡ option_map (λ (b : Face × Count). b.0.g) (latest id bs)
found_on id k f same [] = refl
found_on id k f same (b ∷ bs) =
    elim (cases_Bool (b.0.id == k)) [
      | inl here ↦ rw here (both b bs (same b))
      | inr apart ↦ rw apart (one b (on_latest k f bs) bs (found_on id k f same bs))
    ]
  where
    both : (b : Face × Count) (bs : List (Face × Count)) → ((f b).0.id ≡ b.0.id) × ((f b).0.g ≡ b.0.g)
        → option_map (λ (b : Face × Count). b.0.g) (latest id (f b ∷ bs)) ≡ option_map (λ (b : Face × Count). b.0.g) (latest id (b ∷ bs))
    both b bs is =
        elim (cases_Bool (b.0.id == id)) [
          | inl it ↦ let too : ((f b).0.id == id) ≡ true = ap (λ i. i == id) is.0 ∙ it in rw it (rw too (ap Some is.1))
          | inr no' ↦ let too : ((f b).0.id == id) ≡ false = ap (λ i. i == id) is.0 ∙ no' in rw no' (rw too refl)
        ]

    one : (b : Face × Count) (xs ys : List (Face × Count)) → option_map (λ (b : Face × Count). b.0.g) (latest id xs) ≡ option_map (λ (b : Face × Count). b.0.g) (latest id ys)
        → option_map (λ (b : Face × Count). b.0.g) (latest id (b ∷ xs)) ≡ option_map (λ (b : Face × Count). b.0.g) (latest id (b ∷ ys))
    one b xs ys is = elim (cases_Bool (b.0.id == id)) [ inl it ↦ rw it refl | inr no' ↦ rw no' is ]

found_done : (id : ℕ) (o : Option Kind) (bs : List (Face × Count)) → option_map (λ (b : Face × Count). b.0.g) (latest id (done_by o bs)) ≡ option_map (λ (b : Face × Count). b.0.g) (latest id bs)
found_done id None bs = refl
found_done id (Some k) bs = by bs
  where
    done_same : (b : Face × Count) → ((done_in k b).0.id ≡ b.0.id) × ((done_in k b).0.g ≡ b.0.g)
    done_same b = elim (cases_Bool (is_change b.0.g k)) [ inl yes' ↦ rw yes' (refl, refl) | inr no' ↦ rw no' (refl, refl) ]

    by : (bs : List (Face × Count)) → option_map (λ (b : Face × Count). b.0.g) (latest id (map (done_in k) bs)) ≡ option_map (λ (b : Face × Count). b.0.g) (latest id bs)
    by [] = refl
    by (b ∷ bs) =
        let same = done_same b in
        elim (cases_Bool (b.0.id == id)) [
          | inl it ↦ let too : ((done_in k b).0.id == id) ≡ true = ap (λ i. i == id) same.0 ∙ it in rw it (rw too (ap Some same.1))
          | inr no' ↦ let too : ((done_in k b).0.id == id) ≡ false = ap (λ i. i == id) same.0 ∙ no' in rw no' (rw too (by bs))
        ]

note_est : (s : Seen) (n : Note) (id : ℕ) → est (with_note s n) id ≡ est s id
note_est s (note.Begin w) id = refl
note_est s (note.Join x g) id = refl
note_est s (note.Leave x g) id = refl
note_est s (note.Give x k g) id = refl
note_est s (note.Own x k g) id = refl
note_est s (note.Set k g) id = refl
note_est s (note.Unset k) id = refl
note_est s (note.Up x k d count sdu) id = refl
note_est s (note.Freed k Dl count) id = found_on id k (freed_to count) (λ b. (refl, refl)) s.bearers
note_est s (note.Freed k Ul count) id = refl
note_est s (note.Confirmed x) id = refl
note_est s (note.Refused x w) id = refl
note_est s note.Done id = found_done id s.kind s.bearers
note_est s note.Rejected id = refl

pub line_est : (s : Seen) (x : Line) (id : ℕ) → est (with_line s x) id ≡ est s id
line_est s (line.Note n) id = note_est s n id
line_est s (line.Send l f) id = refl
line_est s (line.Event e) id = refl
line_est s (line.Answer a) id = refl

pub lines_est : (xs : List Line) (s : Seen) (id : ℕ) → est (fold with_line s xs) id ≡ est s id
lines_est [] s id = refl
lines_est (x ∷ xs) s id = lines_est xs (with_line s x) id ∙ line_est s x id

-- ---- a command that is not refused

none_of : (bs : List (Bool × Refusal)) → first_refusal bs ≡ None → AllByRecursion (λ (b : Bool × Refusal). b.0 ≡ false) bs
none_of [] none = tt
none_of ((true, w) ∷ more) none = absurd (let bad : Some w ≡ None = none in cc)
none_of ((false, w) ∷ more) none = (refl, none_of more none)

none_is : (o : Option Node) → not (is_none o) ≡ false → o ≡ None
none_is None is = refl
none_is (Some x) is = absurd (let bad : true ≡ false = is in cc)

some_is : (o : Option Node) → is_none o ≡ false → is_some o ≡ true
some_is None is = absurd (let bad : true ≡ false = is in cc)
some_is (Some x) is = refl

never : {X : Type 0} → false ≡ true → X
never bad = absurd cc

-- an event but one that sets up a bearer
abbrev IsOther : Event → Type 0
IsOther (event.Bearer id n first shape threshold policy) = ⊥
IsOther _ = ⊤

apt : (E : ℕ → Option ℕ) (n : ℕ) (m : MasterProc) (e : Event) → AddsSecond e → IsOther e → first_refusal (command_refusals n m e) ≡ None → IsApt E m.table e
apt E k m (event.Bearer id n first shape threshold policy) adds other none = absurd other
apt E k m (event.Reshape id shape) adds other none =
    let all = none_of (command_refusals k m (event.Reshape id shape)) none in record { allowed = all.1.1.0; unspent = λ is. all.1.1.1.1.0; latest = tt }
apt E k m (event.Add node) adds other none =
    let all = none_of (command_refusals k m (event.Add node)) none in record { allowed = (none_is m.table.sec all.1.0, adds); unspent = λ is. never is; latest = tt }
apt E k m event.Change adds other none =
    let all = none_of (command_refusals k m event.Change) none in record { allowed = some_is m.table.sec all.1.0; unspent = λ is. never is; latest = tt }
apt E k m event.Release adds other none =
    let all = none_of (command_refusals k m event.Release) none in record { allowed = tt; unspent = λ is. all.1.1.0; latest = tt }
apt E k m (event.Remove id) adds other none = record { allowed = tt; unspent = λ is. never is; latest = tt }
apt E k m event.RekeySecond adds other none = record { allowed = tt; unspent = λ is. never is; latest = tt }
apt E k m (event.RekeyMaster root) adds other none = record { allowed = tt; unspent = λ is. never is; latest = tt }
apt E k m (event.Recover id) adds other none = record { allowed = tt; unspent = λ is. never is; latest = tt }
apt E k m (event.Report node id) adds other none = record { allowed = tt; unspent = λ is. never is; latest = tt }
apt E k m (event.Submit id d payload) adds other none = record { allowed = tt; unspent = λ is. never is; latest = tt }
apt E k m (event.Deny node on) adds other none = record { allowed = tt; unspent = λ is. never is; latest = tt }
apt E k m (event.Ask node what) adds other none = record { allowed = tt; unspent = λ is. never is; latest = tt }
apt E k m event.ScgFail adds other none = record { allowed = tt; unspent = λ is. never is; latest = tt }
apt E k m (event.Step l i) adds other none = record { allowed = tt; unspent = λ is. never is; latest = tt }
apt E k m (event.Lose l i) adds other none = record { allowed = tt; unspent = λ is. never is; latest = tt }
apt E k m (event.Again l i) adds other none = record { allowed = tt; unspent = λ is. never is; latest = tt }

-- ---- an event that is given to the master

may_rekey : (E : ℕ → Option ℕ) (t : Table) → IsApt E t event.RekeySecond
may_rekey E t = record { allowed = tt; unspent = λ is. never is; latest = tt }

may_change : (E : ℕ → Option ℕ) (t : Table) → is_some t.sec ≡ true → IsApt E t event.Change
may_change E t there = record { allowed = there; unspent = λ is. never is; latest = tt }

may_release : (E : ℕ → Option ℕ) (t : Table) → is_release_spent t (draft t event.Release) ≡ false → IsApt E t event.Release
may_release E t free = record { allowed = tt; unspent = λ is. free; latest = tt }

-- the keys after a step that the master takes, by these names
abbrev Turned : (ℕ → Option ℕ) → MasterNode × Outcome → Type 0
Turned E done = OfTurn (IsKeyed E) AreSet (done.0, effects_of done.1)

other_turned : (E : ℕ → Option ℕ) (c : Choices) (m : MasterNode) (e : Event) → AddsSecond e → IsOther e → OfProc (IsKeyed E) AreSet m.proc → Turned E (master_event c m e)
other_turned E c m e adds other good =
    of_event (IsKeyed E) AreSet (IsApt E) (λ t e d is may at. draws_keyed E t is e d may at) (may_rekey E) (may_change E) (may_release E) c m good e
    (λ none. apt E (length c.policies) m.proc e adds other none)

-- one that sets up a bearer
row_none : (m : MasterProc) (id : ℕ) → is_some m.command ≡ false → has_bearer m id ≡ false → row m.table id ≡ None
row_none m id free none = by m.command free (row m.table id) none
  where
    by : (c : Option Command) → is_some c ≡ false → (o : Option Row) → (is_some o && not (is_unsettled id c)) ≡ false → o ≡ None
    by c free None none = refl
    by None free (Some r) none = absurd (let bad : true ≡ false = none in cc)
    by (Some x) free (Some r) none = absurd (let bad : true ≡ false = free in cc)

none_there : (id : ℕ) (rows : List Row) → find (λ r. r.id == id) rows ≡ None → AllByRecursion (λ (r : Row). (r.id == id) ≡ false) rows
none_there id [] none = tt
none_there id (r ∷ rows) none =
    elim (cases_Bool (r.id == id)) [
      | inl here ↦ absurd (let bad : Some r ≡ None = rw here at none in cc)
      | inr apart ↦ (apart, none_there id rows (rw apart at none))
    ]

no_command : (o : Option Command) → is_some o ≡ false → o ≡ None
no_command None is = refl
no_command (Some x) is = absurd (let bad : true ≡ false = is in cc)

module _ (c : Choices) (m : MasterNode) (s : Seen) (last : s.last ≡ m.proc.table.last) (good : OfProc (IsKeyed (est s)) AreSet m.proc)
    (id : ℕ) (n : SnLen) (first : ℕ) (shape : Shape) (threshold policy : ℕ) where
  abbrev sets_up : Event
  sets_up = event.Bearer id n first shape threshold policy

  abbrev with_it : Seen
  with_it = answered sets_up answer.Ok s

  new_est : est with_it id ≡ Some (m.proc.table.last + 1)
  new_est = rw (eq-eqb id id refl) (ap (λ k. Some (k + 1)) last)

  old_est : (k : ℕ) → (k == id) ≡ false → est with_it k ≡ est s k
  old_est k apart = let other : (id == k) ≡ false = flip_apart k id apart in rw other refl
    where
      flip_apart : (a b : ℕ) → (a == b) ≡ false → (b == a) ≡ false
      flip_apart a b no' = elim (cases_Bool (b == a)) [ inl same ↦ absurd (let bad : false ≡ true = sym no' ∙ eq-eqb a b (sym (eqb-true b a same)) in cc) | inr apart' ↦ apart' ]

  others_stay : (rows : List Row) → AllByRecursion (λ (r : Row). (r.id == id) ≡ false) rows → AllByRecursion (λ (r : Row). est with_it r.id ≡ est s r.id) rows
  others_stay [] apart = tt
  others_stay (r ∷ rows) apart = (old_est r.id apart.0, others_stay rows apart.1)

  bearer_turned : (o : Option Refusal) → first_refusal (command_refusals (length c.policies) m.proc sets_up) ≡ o
      → let done = commanded c m (commands_unless m.proc sets_up o) in Turned (est (answered sets_up done.1.answer s)) done
  bearer_turned None none =
      let all = none_of (command_refusals (length c.policies) m.proc sets_up) none in
      let E = est with_it in
      let free = no_command m.proc.command all.0 in
      let apart = none_there id m.proc.table.rows (row_none m.proc id all.0 all.1.0) in
      let good' : OfProc (IsKeyed E) AreSet m.proc = record {
        table = rows_alike (est s) E m.proc.table (others_stay m.proc.table.rows apart) good.table;
        command = subst (OfCommand (IsKeyed E) AreSet m.proc.table) (sym free) tt;
      } in
      subst (λ o. Turned E (commanded c m (commands_unless m.proc sets_up o))) none
      (of_event (IsKeyed E) AreSet (IsApt E) (λ t e d is may at. draws_keyed E t is e d may at) (may_rekey E) (may_change E) (may_release E) c m good' sets_up
      (λ none'. record { allowed = all.1.1.0; unspent = λ is. all.1.1.1.1.0; latest = new_est }))
  bearer_turned (Some why) none = record { state = good; sends = tt }

-- ---- any event

other_est : (e : Event) → IsOther e → (a : Answer) (s : Seen) (id : ℕ) → est (answered e a s) id ≡ est s id
other_est (event.Bearer k n first shape threshold policy) other a s id = absurd other
other_est (event.Remove k) other answer.Ok s id = found_on id k dropped (λ b. (refl, refl)) s.bearers
other_est (event.Submit k Dl payload) other answer.Ok s id = found_on id k one_more (λ b. (refl, refl)) s.bearers
other_est (event.Submit k Ul payload) other answer.Ok s id = refl
other_est (event.Reshape k shape) other answer.Ok s id = refl
other_est (event.Add x) other answer.Ok s id = refl
other_est event.Change other answer.Ok s id = refl
other_est event.Release other answer.Ok s id = refl
other_est event.RekeySecond other answer.Ok s id = refl
other_est (event.RekeyMaster root) other answer.Ok s id = refl
other_est (event.Recover k) other answer.Ok s id = refl
other_est (event.Report x k) other answer.Ok s id = refl
other_est (event.Deny x on) other answer.Ok s id = refl
other_est (event.Ask x w) other answer.Ok s id = refl
other_est event.ScgFail other answer.Ok s id = refl
other_est (event.Step l i) other answer.Ok s id = refl
other_est (event.Lose l i) other answer.Ok s id = refl
other_est (event.Again l i) other answer.Ok s id = refl
other_est e other (answer.No why) s id = refl

-- what no order is has no plan carried out
pub unordered : (f : Flight) → orders f ≡ false → carried_plan f ≡ None
unordered (flight.Air id g num tag pdu) is = refl
unordered (flight.Ack id g num) is = refl
unordered (flight.Tun tag packet) is = refl
unordered (flight.Sdu id g sdu) is = refl
unordered (flight.End id g) is = refl
unordered (flight.Told id g count) is = refl
unordered (flight.Ctl (rec.Reconf q key)) is = absurd (let bad : true ≡ false = is in cc)
unordered (flight.Ctl (rec.Rcomp g)) is = refl
unordered (flight.Ctl (rec.Scgf x)) is = refl
unordered (flight.Ctl (rec.Recov id)) is = refl
unordered (flight.Ctl (rec.Recovd id)) is = refl
unordered (flight.Ctl (rec.Addreq q key)) is = refl
unordered (flight.Ctl (rec.Addack g)) is = refl
unordered (flight.Ctl (rec.Addrej g)) is = refl
unordered (flight.Ctl (rec.Modreq q key)) is = refl
unordered (flight.Ctl (rec.Modack g)) is = refl
unordered (flight.Ctl (rec.Modrej g)) is = refl
unordered (flight.Ctl (rec.Recfg g)) is = refl
unordered (flight.Ctl (rec.Relreq q)) is = refl
unordered (flight.Ctl (rec.Relack g)) is = refl
unordered (flight.Ctl (rec.Relrej g)) is = refl
unordered (flight.Ctl (rec.Uecr g)) is = refl
unordered (flight.Ctl (rec.Snst st)) is = refl
unordered (flight.Ctl (rec.Moved g id)) is = refl
unordered (flight.Ctl (rec.Scgn id g)) is = refl
unordered (flight.Ctl rec.Modrqd) is = refl
unordered (flight.Ctl (rec.Modcnf g)) is = refl
unordered (flight.Ctl (rec.Modref w)) is = refl
unordered (flight.Ctl rec.Chgrqd) is = refl
unordered (flight.Ctl (rec.Chgcnf q)) is = refl
unordered (flight.Ctl (rec.Chgref w)) is = refl
unordered (flight.Ctl rec.Relrqd) is = refl
unordered (flight.Ctl (rec.Relcnf q)) is = refl

-- none of the flights on a link is an order
no_order_at : (i : ℕ) (fs : List Flight) (f : Flight) → filter orders fs ≡ [] → slice_get fs i ≡ Some f → orders f ≡ false
no_order_at i [] f none is = absurd (let bad : None ≡ Some f = is in cc)
no_order_at zero (g ∷ gs) f none is =
    let same : g ≡ f = cc in
    elim (cases_Bool (orders g)) [ inl yes' ↦ absurd (let bad : g ∷ filter orders gs ≡ [] = rw yes' at none in cc) | inr no' ↦ subst (λ x. orders x ≡ false) same no' ]
no_order_at (suc i) (g ∷ gs) f none is =
    elim (cases_Bool (orders g)) [ inl yes' ↦ absurd (let bad : g ∷ filter orders gs ≡ [] = rw yes' at none in cc) | inr no' ↦ no_order_at i gs f (rw no' at none) is ]

module _ (E : ℕ → Option ℕ) (c : Choices) (w : World) (good : OfProc (IsKeyed E) AreSet w.master.proc) where
  -- the keys after what happens
  abbrev Happened : World × Outcome → Type 0
  Happened done = Turned E (done.0.master, done.1)

  elsewhere : (o : Outcome) → IsQuiet (effects_of o) → Turned E (w.master, o)
  elsewhere o q = record { state = good; sends = unfiltered (AreSet w.master.proc.table) o.sends (subst (AllByRecursion (OfSend (AreSet w.master.proc.table))) (sym q.sends) tt) }

  given : (e : Event) → AddsSecond e → IsOther e → (x : Node) → Happened (takes c w (Cmd e) x)
  given e adds other T = elsewhere (terminal_step c w.terminal (Cmd e)).1 (terminal_quiet c w.terminal (Cmd e))
  given e adds other M = other_turned E c w.master e adds other good
  given e adds other A = elsewhere (second_step c w.a (Cmd e)).1 (second_quiet c w.a (Cmd e))
  given e adds other B = elsewhere (second_step c w.b (Cmd e)).1 (second_quiet c w.b (Cmd e))

  module _ (v : View) (agree : Agree v w.master.proc) where
    come : (l : LinkId) (f : Flight) (x : Node) → Happened (takes c w (Come l f) x)
    come l f T = elsewhere (terminal_step c w.terminal (Come l f)).1 (terminal_quiet c w.terminal (Come l f))
    come l f M =
        let k = of_flight (IsKeyed E) AreSet (IsApt E) (λ t e d is may at. draws_keyed E t is e d may at) (may_rekey E) (may_change E) (may_release E) c w.master good v agree l.from f l.class in
        record { state = k.state; sends = k.sends }
    come l f A = elsewhere (second_step c w.a (Come l f)).1 (second_quiet c w.a (Come l f))
    come l f B = elsewhere (second_step c w.b (Come l f)).1 (second_quiet c w.b (Come l f))

    stepped : (l : LinkId) (i : ℕ) (o : Option Flight) → Happened (carried_on c w (step_of w l i o))
    stepped l i None = record { state = good; sends = tt }
    stepped l i (Some f) =
        elim (cases_Bool (is_ordered l.class && nat_lt 0 i)) [
          | inl behind ↦ rw behind (record { state = good; sends = tt })
          | inr first ↦ elim (cases_Bool (is_aged_for (node_at w l.to) (weight f))) [
            | inl aged ↦ rw first (rw aged (record { state = good; sends = tt }))
            | inr fresh ↦ rw first (rw fresh (come l f l.to))
          ]
        ]

  lost : (k : Class) (o : Option Flight) → Happened (carried_on c w (in_tunnel k (loss_of o)))
  lost Ctl o = record { state = good; sends = tt }
  lost Feed o = record { state = good; sends = tt }
  lost Air o = record { state = good; sends = tt }
  lost Tun None = record { state = good; sends = tt }
  lost Tun (Some f) = record { state = good; sends = tt }

  copied : (l : LinkId) (k : Class) (o : Option Flight) → (k ≡ Tun → (f : Flight) → o ≡ Some f → orders f ≡ false) → Happened (carried_on c w (in_tunnel k (copy_of l o)))
  copied l Ctl o none = record { state = good; sends = tt }
  copied l Feed o none = record { state = good; sends = tt }
  copied l Air o none = record { state = good; sends = tt }
  copied l Tun None none = record { state = good; sends = tt }
  copied l Tun (Some f) none = record { state = good; sends = (subst (OfSome (AreSet w.master.proc.table)) (sym (unordered f (none refl f refl))) tt, tt) }

  module _ (v : View) (agree : Agree v w.master.proc) (none : NoOrderInTunnels w) where
    other_happened : (e : Event) → AddsSecond e → IsOther e → Happened (carried_on c w (happening w e))
    other_happened (event.Bearer id n first shape threshold policy) adds other = absurd other
    other_happened (event.Reshape id shape) adds other = given (event.Reshape id shape) adds other M
    other_happened (event.Remove id) adds other = given (event.Remove id) adds other M
    other_happened (event.Add x) adds other = given (event.Add x) adds other M
    other_happened event.Change adds other = given event.Change adds other M
    other_happened event.Release adds other = given event.Release adds other M
    other_happened event.RekeySecond adds other = given event.RekeySecond adds other M
    other_happened (event.RekeyMaster root) adds other = given (event.RekeyMaster root) adds other M
    other_happened (event.Recover id) adds other = given (event.Recover id) adds other M
    other_happened (event.Report x id) adds other = given (event.Report x id) adds other x
    other_happened (event.Deny x on) adds other = given (event.Deny x on) adds other x
    other_happened (event.Ask x what) adds other = given (event.Ask x what) adds other x
    other_happened event.ScgFail adds other = given event.ScgFail adds other T
    other_happened (event.Submit id d payload) adds other = given (event.Submit id d payload) adds other (submitter d)
    other_happened (event.Step l i) adds other = stepped v agree l i (slice_get (flights_on l w.links) i)
    other_happened (event.Lose l i) adds other = lost l.class (slice_get (flights_on l w.links) i)
    other_happened (event.Again l i) adds other = copied l l.class (slice_get (flights_on l w.links) i) (λ is f at. no_order_at i (flights_on l w.links) f (none l is) at)

-- the keys after an event, by the names that are seen then
module _ (c : Choices) (w : World) (p : Past) (is : HoldsKeys p w) where
  -- after what the event comes to
  abbrev AreThen : Event → Type 0
  AreThen e = let done = carried_on c w (happening w e) in Turned (est (answered e done.1.answer (seen p))) (done.0.master, done.1)

  other_then : (e : Event) → AddsSecond e → IsOther e → AreThen e
  other_then e adds other =
      let done = carried_on c w (happening w e) in
      let k = other_happened (est (seen p)) c w is.keys (view p) is.lasts.agree is.lasts.none e adds other in
      record { state = proc_alike (est (seen p)) (est (answered e done.1.answer (seen p))) (other_est e other done.1.answer (seen p)) done.0.master.proc k.state; sends = k.sends }

  pub event_then : (e : Event) → AddsSecond e → AreThen e
  event_then (event.Bearer id n first shape threshold policy) adds =
      bearer_turned c w.master (seen p) is.lasts.agree.same.rest.last is.keys id n first shape threshold policy (first_refusal (command_refusals (length c.policies) w.master.proc (event.Bearer id n first shape threshold policy))) refl
  event_then (event.Reshape id shape) adds = other_then (event.Reshape id shape) adds tt
  event_then (event.Remove id) adds = other_then (event.Remove id) adds tt
  event_then (event.Add x) adds = other_then (event.Add x) adds tt
  event_then event.Change adds = other_then event.Change adds tt
  event_then event.Release adds = other_then event.Release adds tt
  event_then event.RekeySecond adds = other_then event.RekeySecond adds tt
  event_then (event.RekeyMaster root) adds = other_then (event.RekeyMaster root) adds tt
  event_then (event.Recover id) adds = other_then (event.Recover id) adds tt
  event_then (event.Report x id) adds = other_then (event.Report x id) adds tt
  event_then (event.Deny x on) adds = other_then (event.Deny x on) adds tt
  event_then (event.Ask x what) adds = other_then (event.Ask x what) adds tt
  event_then event.ScgFail adds = other_then event.ScgFail adds tt
  event_then (event.Submit id d payload) adds = other_then (event.Submit id d payload) adds tt
  event_then (event.Step l i) adds = other_then (event.Step l i) adds tt
  event_then (event.Lose l i) adds = other_then (event.Lose l i) adds tt
  event_then (event.Again l i) adds = other_then (event.Again l i) adds tt

  -- the names after its lines are the same
  pub est_after : (e : Event) (id : ℕ) → let x = (world_step c w e).1 in est (seen (after p x)) id ≡ est (answered e x.answer (seen p)) id
  est_after e id =
      let x = (world_step c w e).1 in ap (λ s. est s id) (after_seen p x) ∙ lines_est x.lines (answered e x.answer (seen p)) id

  pub holds_keys_next : (e : Event) → AddsSecond e → HoldsKeys (after p (world_step c w e).1) (world_step c w e).0
  holds_keys_next e adds =
      let x = (world_step c w e).1 in
      let k = event_then e adds in
      record {
        lasts = lasts_next c w p e adds is.lasts;
        keys = proc_alike (est (answered e x.answer (seen p))) (est (seen (after p x))) (est_after e) (world_step c w e).0.master.proc k.state;
      }

-- at the start
pub holds_keys_new : (h : Header) (policies : ℕ) → HoldsKeys (new_past h policies) (new_world h)
holds_keys_new h policies = record {
  lasts = lasts_new h policies;
  keys = record {
    table = record {
      placed = record { anchors = tt; alone = λ none. tt; ascend = tt; second = tt };
      counts = refl;
      current = omega arith;
      drawn = λ x stands. never stands;
      one = λ x stands. refl;
      rows = tt;
      second = λ there. never there;
    };
    command = tt;
  };
}
