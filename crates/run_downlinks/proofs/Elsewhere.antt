-- A step of the terminal, a loss and a copy leave the downlinks where they are.
use Rattle.std.proofs.Common.{ℕ, ◌≡◌, ◌++◌, ◌∙◌, Bool, true, false, List, [], ◌∷◌, Option, Some, None, slice_get, refl, sym, ap, subst, inl, inr}
use Rattle.std.specs.List.{AllByRecursion}
use Rattle.std.specs.Prelude.{if◌then◌else◌, nat_lt, ◌&&◌, ◌||◌, ⊤, ◌⊎◌}
use Rattle.std.proofs.lemmas.Bool.{cases_Bool}
use Rattle.std.proofs.lemmas.List.{append-nil}
use Rattle.dc_base.specs.Links.{is_ordered, is_same_link, is_tunnel, link}
use Rattle.dc_base.specs.Nodes.{is_same_node, is_secondary}
use Rattle.dc_base.specs.declared.answers.Answer.{Answer}
use Rattle.dc_base.specs.declared.answers.Answer.TheVariants as answer
use Rattle.dc_base.specs.declared.answers.Refusal.TheVariants as refusal
use Rattle.dc_base.specs.declared.events.Event.{Event}
use Rattle.dc_base.specs.declared.events.Event.TheVariants as event
use Rattle.dc_base.specs.declared.events.Line.{Line}
use Rattle.dc_base.specs.declared.events.Line.TheVariants as line
use Rattle.dc_base.specs.declared.events.Note.{Note}
use Rattle.dc_base.specs.declared.flights.Flight.{Flight}
use Rattle.dc_base.specs.declared.flights.Flight.TheVariants as flight
use Rattle.dc_base.specs.declared.nodes.Class.TheVariants.{Ctl, Feed}
use Rattle.dc_base.specs.declared.nodes.LinkId.{LinkId}
use Rattle.dc_base.specs.declared.nodes.Node.{Node}
use Rattle.dc_base.specs.declared.nodes.Node.TheVariants.{A, B, M, T}
use Rattle.dc_base.specs.declared.records.Rec.{Rec}
use Rattle.dc_base.specs.declared.records.Rec.TheVariants as rec
use Rattle.node_rules.specs.Flights.{weight}
use Rattle.node_rules.specs.Readers.{is_aged_for}
use Rattle.node_rules.specs.Choices.{Choices, Send}
use Rattle.node_rules.specs.Lines.{lines_of}
use Rattle.node_rules.specs.Run.{Happening, carried_on, given_to, happening, loss_of, node_at, on_links, refused_for, step_of, world_step}
use Rattle.node_rules.specs.World.{World, flights_on}
use Rattle.node_rules.specs.declared.commands.Row.{Row}
use Rattle.node_rules.specs.declared.inputs.Input.TheVariants.{Come}
use Rattle.transcript.specs.Content.{place_taken, put_on, without_taken}
use Rattle.transcript.proofs.OnEach.{each_append, each_at, each_remove, each_weaker}
use Rattle.claims.specs.Links.{is_class, is_from_to}
use Rattle.master_runs.proofs.Contents.{flights_next}
use Rattle.master_runs.proofs.Moving.{same_link}
use Rattle.run_words.specs.Senders.{AreBy}
use Rattle.run_words.proofs.Lines.{each_line_of}
use Rattle.run_words.proofs.TerminalSends.{terminal_sends}
use Rattle.run_senders.specs.Kinds.{is_of_terminal}
use Rattle.run_senders.specs.Lines.{IsCopyBy, IsOwnLine}
use Rattle.run_senders.proofs.Lines.{copy_is, event_copies, own_lines}
use Rattle.run_senders.proofs.Standing.{AreRight}
use Rattle.run_senders.proofs.TerminalKinds.{terminal_kinds}
use Rattle.run_ordered.specs.Forwarding.{IsSilentOf, IsTransferElse}
use Rattle.run_receivers.specs.Submitted.{Submitted}
use Rattle.run_ordered.specs.Orders.{IsOrdered, scene_of}
use Rattle.run_downlinks.specs.Still.{IsStill}
use Rattle.run_downlinks.proofs.Still.{still_ordered}

-- it happens at the terminal, or on links alone
abbrev pub IsElsewhere : Happening → Type 0
IsElsewhere (given_to T i) = ⊤
IsElsewhere (on_links x) = ⊤
IsElsewhere (given_to M i) = ⊥
IsElsewhere (given_to A i) = ⊥
IsElsewhere (given_to B i) = ⊥
IsElsewhere (refused_for why) = ⊥

-- a flight that is taken from there is none on a line from the core or to it: it goes to the terminal, or is in a tunnel
abbrev pub PlaceOff : Option (LinkId × ℕ) → Type 0
PlaceOff None = ⊤
PlaceOff (Some (k, i)) = (k.to ≡ T) ⊎ (is_tunnel k.class ≡ true)

at_step : (l : LinkId) (i : ℕ) (a : Answer) → l.to ≡ T → PlaceOff (place_taken (event.Step l i) a)
at_step l i answer.Ok to = inl to
at_step l i (answer.No refusal.Aged) to = inl to
at_step l i (answer.No refusal.NoBearer) to = tt
at_step l i (answer.No refusal.BearerThere) to = tt
at_step l i (answer.No refusal.Busy) to = tt
at_step l i (answer.No refusal.NoSecondary) to = tt
at_step l i (answer.No refusal.SecondaryThere) to = tt
at_step l i (answer.No refusal.SameShape) to = tt
at_step l i (answer.No refusal.IdSpent) to = tt
at_step l i (answer.No refusal.CounterSpent) to = tt
at_step l i (answer.No refusal.RootUsed) to = tt
at_step l i (answer.No refusal.NoFlight) to = tt
at_step l i (answer.No refusal.NotFirst) to = tt
at_step l i (answer.No refusal.NotTunnel) to = tt
at_step l i (answer.No refusal.Full) to = tt
at_step l i (answer.No refusal.Exhausted) to = tt
at_step l i (answer.No refusal.NoPolicy) to = tt

at_loss : (l : LinkId) (i : ℕ) (a : Answer) → is_tunnel l.class ≡ true → PlaceOff (place_taken (event.Lose l i) a)
at_loss l i answer.Ok tunnel = inr tunnel
at_loss l i (answer.No why) tunnel = tt

module _ (w : World) where
  given_off : (l : LinkId) (i : ℕ) (f : Flight) → IsElsewhere (given_to l.to (Come l f)) → (a : Answer) → PlaceOff (place_taken (event.Step l i) a)
  given_off l i f is a = at_step l i a (by l.to is)
    where
      by : (x : Node) → IsElsewhere (given_to x (Come l f)) → x ≡ T
      by T is = refl
      by M is = absurd is
      by A is = absurd is
      by B is = absurd is

  step_off : (l : LinkId) (i : ℕ) (o : Option Flight) → IsElsewhere (step_of w l i o) → (a : Answer) → PlaceOff (place_taken (event.Step l i) a)
  step_off l i None = λ is. absurd is
  step_off l i (Some f) =
      elim (cases_Bool (is_ordered l.class && nat_lt 0 i)) [
        | inl behind ↦ rw behind (λ is. absurd is)
        | inr first ↦ elim (cases_Bool (is_aged_for (node_at w l.to) (weight f))) [
          | inl aged ↦ rw (first, aged) (λ is. absurd is)
          | inr young ↦ rw (first, young) (given_off l i f)
        ]
      ]

  loss_off : (l : LinkId) (i : ℕ) (t : Bool) → is_tunnel l.class ≡ t → (o : Option Flight) → IsElsewhere (if t then loss_of o else refused_for refusal.NotTunnel) → (a : Answer) → PlaceOff (place_taken (event.Lose l i) a)
  loss_off l i true tunnel o is a = at_loss l i a tunnel
  loss_off l i false tunnel o is a = absurd is

  pub place_off : (e : Event) → IsElsewhere (happening w e) → (a : Answer) → PlaceOff (place_taken e a)
  place_off (event.Step l i) is a = step_off l i (slice_get (flights_on l w.links) i) is a
  place_off (event.Lose l i) is a = loss_off l i (is_tunnel l.class) refl (slice_get (flights_on l w.links) i) is a
  place_off (event.Again l i) is a = tt
  place_off (event.Bearer id n first shape threshold policy) is a = tt
  place_off (event.Reshape id shape) is a = tt
  place_off (event.Remove id) is a = tt
  place_off (event.Add x) is a = tt
  place_off event.Change is a = tt
  place_off event.Release is a = tt
  place_off event.RekeySecond is a = tt
  place_off (event.RekeyMaster root) is a = tt
  place_off (event.Recover id) is a = tt
  place_off (event.Report x id) is a = tt
  place_off (event.Deny x which) is a = tt
  place_off (event.Ask x what) is a = tt
  place_off event.ScgFail is a = tt
  place_off (event.Submit id d payload) is a = tt

-- nothing is taken from another link
pub left_off : (l : LinkId) (place : Option (LinkId × ℕ)) (fs : List Flight) → (l.to ≡ T → ⊥) → is_tunnel l.class ≡ false → PlaceOff place → without_taken l place fs ≡ fs
left_off l None fs away line off = refl
left_off l (Some (k, i)) fs away line off =
    elim (cases_Bool (is_same_link l k)) [
      | inl here ↦
          let same = same_link l k here in
          elim off [
            | inl to ↦ absurd (away (ap (λ (y : LinkId). y.to) same ∙ to))
            | inr tunnel ↦ absurd (let bad : false ≡ true = sym line ∙ ap (λ (y : LinkId). is_tunnel y.class) same ∙ tunnel in cc)
          ]
      | inr there ↦ rw there refl
    ]

-- ---- what is put on links

abbrev LineOff : LinkId → Line → Type 0
LineOff l (line.Send k f) = is_same_link l k ≡ false
LineOff l (line.Note n) = ⊤
LineOff l (line.Event e) = ⊤
LineOff l (line.Answer a) = ⊤

puts_none : (l : LinkId) (xs : List Line) → AllByRecursion (LineOff l) xs → put_on l xs ≡ []
puts_none l [] off = refl
puts_none l (line.Send k f ∷ xs) off = let no' = off.0 in rw no' (puts_none l xs off.1)
puts_none l (line.Note n ∷ xs) off = puts_none l xs off.1
puts_none l (line.Event e ∷ xs) off = puts_none l xs off.1
puts_none l (line.Answer a ∷ xs) off = puts_none l xs off.1

false_of : (b : Bool) → (b ≡ true → ⊥) → b ≡ false
false_of true never = absurd (never refl)
false_of false never = refl

-- not on a line from the core or to it
line_off : (w : World) (e : Event) (h : Happening) → IsElsewhere h → (l : LinkId) → (l.from ≡ T → ⊥) → is_tunnel l.class ≡ false → (x : Line) → IsOwnLine w e h x → LineOff l x
line_off w e (given_to T i) is l away plain (line.Send k f) own = false_of (is_same_link l k) (λ here. away (ap (λ (y : LinkId). y.from) (same_link l k here) ∙ own.0))
line_off w e (given_to T i) is l away plain (line.Note n) own = tt
line_off w e (given_to T i) is l away plain (line.Event e') own = tt
line_off w e (given_to T i) is l away plain (line.Answer a) own = tt
line_off w e (given_to M i) is l away plain x own = absurd is
line_off w e (given_to A i) is l away plain x own = absurd is
line_off w e (given_to B i) is l away plain x own = absurd is
line_off w e (refused_for why) is l away plain x own = absurd is
line_off w e (on_links effects) is l away plain x own =
    copy_is (LineOff l) w e x
    (λ k i m f same tunnel at.
    false_of (is_same_link l m) (λ here. let bad : false ≡ true = sym plain ∙ ap (λ (y : LinkId). is_tunnel y.class) (same_link l m here ∙ same) ∙ tunnel in cc)) own

-- what is so of the flights that stood on a link, and of all that say nothing of a sending entity, is so of what is put there
module _ (P : Flight → Type 0) (id : ℕ) (silent : (f : Flight) → IsSilentOf id f → P f) where
  abbrev LineSo : LinkId → Line → Type 0
  LineSo l (line.Send k f) = is_same_link l k ≡ true → P f
  LineSo l (line.Note n) = ⊤
  LineSo l (line.Event e) = ⊤
  LineSo l (line.Answer a) = ⊤

  puts_so : (l : LinkId) (xs : List Line) → AllByRecursion (LineSo l) xs → AllByRecursion P (put_on l xs)
  puts_so l [] so = tt
  puts_so l (line.Send k f ∷ xs) so =
      elim (cases_Bool (is_same_link l k)) [ inl here ↦ rw here (so.0 here, puts_so l xs so.1) | inr there ↦ rw there (puts_so l xs so.1) ]
  puts_so l (line.Note n ∷ xs) so = puts_so l xs so.1
  puts_so l (line.Event e ∷ xs) so = puts_so l xs so.1
  puts_so l (line.Answer a ∷ xs) so = puts_so l xs so.1

  any_notes : (l : LinkId) (ns : List Note) → AllByRecursion (λ n. LineSo l (line.Note n)) ns
  any_notes l [] = tt
  any_notes l (n ∷ ns) = (tt, any_notes l ns)

  -- what the terminal sends says nothing of any
  of_record : (k : LinkId) (r : Rec) → k.from ≡ T → is_of_terminal k (flight.Ctl r) ≡ true → IsTransferElse id r
  of_record k (rec.Snst st) from of =
      let both = right_of (is_class Ctl k && is_from_to T M k) (is_secondary k.from || is_secondary k.to) of in
      let ends = right_of (is_class Ctl k) (is_from_to T M k) (left_of (is_class Ctl k && is_from_to T M k) (is_secondary k.from || is_secondary k.to) of) in
      let to = to_master k.to (right_of (is_same_node k.from T) (is_same_node k.to M) ends) in
      let one : is_secondary k.from ≡ false = ap is_secondary from in
      absurd (let bad : false ≡ true = sym (ap (λ b. b || is_secondary k.to) one ∙ to) ∙ both in cc)
    where
      left_of : (x y : Bool) → (x && y) ≡ true → x ≡ true
      left_of true y is = refl
      left_of false y is = is

      right_of : (x y : Bool) → (x && y) ≡ true → y ≡ true
      right_of true y is = is
      right_of false y is = absurd cc

      to_master : (y : Node) → is_same_node y M ≡ true → is_secondary y ≡ false
      to_master M is = refl
      to_master T is = refl
      to_master A is = absurd cc
      to_master B is = absurd cc
  of_record k (rec.Reconf plan key) from of = tt
  of_record k (rec.Rcomp g) from of = tt
  of_record k (rec.Scgf failed) from of = tt
  of_record k (rec.Recov i) from of = tt
  of_record k (rec.Recovd i) from of = tt
  of_record k (rec.Addreq plan key) from of = tt
  of_record k (rec.Addack g) from of = tt
  of_record k (rec.Addrej g) from of = tt
  of_record k (rec.Modreq plan key) from of = tt
  of_record k (rec.Modack g) from of = tt
  of_record k (rec.Modrej g) from of = tt
  of_record k (rec.Recfg g) from of = tt
  of_record k (rec.Relreq plan) from of = tt
  of_record k (rec.Relack g) from of = tt
  of_record k (rec.Relrej g) from of = tt
  of_record k (rec.Uecr g) from of = tt
  of_record k (rec.Moved g i) from of = tt
  of_record k (rec.Scgn i g) from of = tt
  of_record k rec.Modrqd from of = tt
  of_record k (rec.Modcnf g) from of = tt
  of_record k (rec.Modref word) from of = tt
  of_record k rec.Chgrqd from of = tt
  of_record k (rec.Chgcnf plan) from of = tt
  of_record k (rec.Chgref word) from of = tt
  of_record k rec.Relrqd from of = tt
  of_record k (rec.Relcnf plan) from of = tt

  terminal_so : (l : LinkId) (ss : List Send) → AreBy T ss → AllByRecursion (λ (s : Send). is_of_terminal s.0 s.1 ≡ true) ss → AllByRecursion (λ (s : Send). LineSo l (line.Send s.0 s.1)) ss
  terminal_so l [] by kinds = tt
  terminal_so l ((k, flight.Air i g num tag pdu) ∷ ss) by kinds = (λ here. silent (flight.Air i g num tag pdu) tt, terminal_so l ss by.1 kinds.1)
  terminal_so l ((k, flight.Ack i g num) ∷ ss) by kinds = (λ here. silent (flight.Ack i g num) tt, terminal_so l ss by.1 kinds.1)
  terminal_so l ((k, flight.Ctl r) ∷ ss) by kinds = (λ here. silent (flight.Ctl r) (of_record k r by.0.0 kinds.0), terminal_so l ss by.1 kinds.1)
  terminal_so l ((k, flight.Tun tag packet) ∷ ss) by kinds = absurd (let bad : false ≡ true = kinds.0 in cc)
  terminal_so l ((k, flight.Sdu i g sdu) ∷ ss) by kinds = absurd (let bad : false ≡ true = kinds.0 in cc)
  terminal_so l ((k, flight.End i g) ∷ ss) by kinds = absurd (let bad : false ≡ true = kinds.0 in cc)
  terminal_so l ((k, flight.Told i g count) ∷ ss) by kinds = absurd (let bad : false ≡ true = kinds.0 in cc)

  lines_so : (c : Choices) (w : World) (e : Event) (h : Happening) → IsElsewhere h → (l : LinkId) → AllByRecursion P (flights_on l w.links) → AllByRecursion (IsOwnLine w e h) (lines_of (carried_on c w h).1) → AllByRecursion (LineSo l) (lines_of (carried_on c w h).1)
  lines_so c w e (given_to T i) is l all own =
      let o = (carried_on c w (given_to T i)).1 in each_line_of (LineSo l) o (any_notes l o.notes) (terminal_so l o.sends (terminal_sends c w.terminal i) (terminal_kinds c w.terminal i))
  lines_so c w e (given_to M i) is l all own = absurd is
  lines_so c w e (given_to A i) is l all own = absurd is
  lines_so c w e (given_to B i) is l all own = absurd is
  lines_so c w e (refused_for why) is l all own = absurd is
  lines_so c w e (on_links effects) is l all own =
      each_weaker (IsCopyBy w e) (LineSo l)
      (λ x copy. copy_is (LineSo l) w e x
      (λ k i m f same tunnel at here. each_at P (flights_on l w.links) i f all (subst (λ y. slice_get (flights_on y w.links) i ≡ Some f) (sym (same_link l m here ∙ same)) at)) copy)
      (lines_of (carried_on c w (on_links effects)).1) own

left_so : (P : Flight → Type 0) (l : LinkId) (place : Option (LinkId × ℕ)) (fs : List Flight) → AllByRecursion P fs → AllByRecursion P (without_taken l place fs)
left_so P l None fs all = all
left_so P l (Some place) fs all = elim (cases_Bool (is_same_link l place.0)) [ inl here ↦ rw here (each_remove P fs place.1 all) | inr there ↦ rw there all ]

-- ---- the whole step

module _ (c : Choices) (w : World) (e : Event) (id : ℕ) (right : AreRight w) where
  nodes : (h : Happening) → IsElsewhere h → let v = (carried_on c w h).0 in (v.master ≡ w.master) × (v.a ≡ w.a) × (v.b ≡ w.b)
  nodes (given_to T i) is = (refl, refl, refl)
  nodes (given_to M i) is = absurd is
  nodes (given_to A i) is = absurd is
  nodes (given_to B i) is = absurd is
  nodes (refused_for why) is = absurd is
  nodes (on_links effects) is = (refl, refl, refl)

  module _ (is : IsElsewhere (happening w e)) where
    own : AllByRecursion (IsOwnLine w e (happening w e)) (world_step c w e).1.lines
    own = own_lines c w e (happening w e) right.there (event_copies w e)

    line_stays : (l : LinkId) → (l.to ≡ T → ⊥) → (l.from ≡ T → ⊥) → is_tunnel l.class ≡ false → flights_on l (world_step c w e).0.links ≡ flights_on l w.links
    line_stays l to from plain =
        let x = (world_step c w e).1 in
        let puts = puts_none l x.lines (each_weaker (IsOwnLine w e (happening w e)) (LineOff l) (λ k mine. line_off w e (happening w e) is l from plain k mine) x.lines own) in
        flights_next c w e l right.long ∙ ap (λ fs. fs ++ put_on l x.lines) (left_off l (place_taken e x.answer) (flights_on l w.links) to plain (place_off w e is x.answer))
        ∙ ap (λ fs. flights_on l w.links ++ fs) puts ∙ append-nil (flights_on l w.links)

    pub elsewhere_still : IsStill id w (world_step c w e).0
    elsewhere_still =
        let x = (world_step c w e).1 in
        let same = nodes (happening w e) is in
        record {
          master = same.0;
          a = same.1;
          b = same.2;
          to_a = line_stays (link M A Feed) (λ bad. cc) (λ bad. cc) refl;
          to_b = line_stays (link M B Feed) (λ bad. cc) (λ bad. cc) refl;
          from_a = line_stays (link A M Feed) (λ bad. cc) (λ bad. cc) refl;
          from_b = line_stays (link B M Feed) (λ bad. cc) (λ bad. cc) refl;
          flights = λ P silent l all.
              subst (AllByRecursion P) (sym (flights_next c w e l right.long))
              (each_append P (without_taken l (place_taken e x.answer) (flights_on l w.links)) (put_on l x.lines)
              (left_so P l (place_taken e x.answer) (flights_on l w.links) all)
              (puts_so P id silent l x.lines (lines_so P id silent c w e (happening w e) is l all own)));
        }

    -- and in their order
    pub elsewhere_ordered : (u : Submitted) (r : Row) → IsOrdered u r id (scene_of w id) → IsOrdered u r id (scene_of (world_step c w e).0 id)
    elsewhere_ordered u r ordered = still_ordered u r id w (world_step c w e).0 elsewhere_still ordered
