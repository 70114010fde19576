-- In a run a node numbers the PDUs that it sends on each link, where at each event what it sends follows on from what it sent before.
use Rattle.std.proofs.Common.{ℕ, ◌≡◌, ◌++◌, ◌+◌, Bool, true, false, List, [], ◌∷◌, Option, Some, None, length, refl, sym, ap, subst, ◌∙◌, append_assoc}
use Rattle.std.specs.Prelude.{fold, if◌then◌else◌, nat_lt, slice_get, ⊤, ◌&&◌, ◌||◌}
use Rattle.std.specs.List.{AllByRecursion}
use Rattle.std.proofs.lemmas.Bool.{eq-eqb}
use Rattle.std.proofs.lemmas.List.{append-nil, length-append}
use Rattle.dc_base.specs.Links.{is_link, is_ordered, is_same_link, is_tunnel, link_number}
use Rattle.dc_base.specs.Nodes.{is_same_node}
use Rattle.dc_base.specs.declared.answers.Answer.{Answer}
use Rattle.dc_base.specs.declared.answers.Answer.TheVariants as answer
use Rattle.dc_base.specs.declared.answers.Refusal.TheVariants as refusal
use Rattle.dc_base.specs.declared.events.Event.{Event}
use Rattle.dc_base.specs.declared.events.Event.TheVariants as event
use Rattle.dc_base.specs.declared.events.Line.{Line}
use Rattle.dc_base.specs.declared.events.Line.TheVariants as line
use Rattle.dc_base.specs.declared.flights.Flight.{Flight}
use Rattle.dc_base.specs.declared.nodes.LinkId.{LinkId}
use Rattle.dc_base.specs.declared.nodes.Node.{Node}
use Rattle.dc_base.specs.declared.nodes.Node.TheVariants.{A, B, M, T}
use Rattle.transcript.specs.Transcript.{sends}
use Rattle.claims.specs.Claim.{Each, EachLine, of_lines}
use Rattle.claims.specs.Judged.{judged}
use Rattle.claims.specs.Links.{find_at}
use Rattle.claims.specs.Noted.{after, noted, past_from}
use Rattle.claims.specs.Numbers.{has_next_number, next_number}
use Rattle.claims.specs.Past.{Past}
use Rattle.claims.specs.Protected.{is_copy, is_same_packet}
use Rattle.claims.specs.Sameness.{is_none_or, is_some_and}
use Rattle.claims.specs.Views.{pdu_of}
use Rattle.node_rules.specs.Choices.{Choices, Send}
use Rattle.node_rules.specs.Effects.{sent}
use Rattle.node_rules.specs.Lines.{lines_of}
use Rattle.node_rules.specs.Run.{Happening, carried_on, copy_of, entries_from, given_to, happening, loss_of, node_at, on_links, refused_for, step_of, world_step}
use Rattle.node_rules.specs.Flights.{weight}
use Rattle.node_rules.specs.Readers.{is_aged_for}
use Rattle.node_rules.specs.World.{World, flights_on}
use Rattle.node_rules.specs.declared.inputs.Input.{Input}
use Rattle.node_rules.specs.declared.inputs.Input.TheVariants.{Come}
use Rattle.node_rules.specs.declared.inputs.Outcome.{Outcome}
use Rattle.run_control.specs.Links.{sent_on}
use Rattle.run_generations.specs.Ahead.{sends_by, sent_in}
use Rattle.run_words.proofs.Lines.{each_line_of}
use Rattle.run_pairs.proofs.Replies.{same_node}
use Rattle.master_runs.proofs.Moving.{same_link}
use Rattle.run_numbers.specs.Claims.{HasSentBy, is_from, pdu_has_number_on}
use Rattle.run_numbers.specs.Histories.{FollowOn, IsNumberedFrom, puts_in, puts_of, puts_on}
use Rattle.run_numbers.specs.Traffic.{Traffic, copied_by, traffic}
use Rattle.run_numbers.proofs.Lines.{LinesFollow, lines_counted, lines_numbered, lines_put}
use Rattle.run_numbers.proofs.Next.{next_in}
use Rattle.run_numbers.proofs.Outcomes.{outcome_none, outcome_puts}
use Rattle.run_numbers.proofs.Puts.{puts_append}
use Rattle.run_numbers.proofs.Traffic.{copy_leaves, judged_copies}

-- ---- what a node sends is on its own links

from_other : (x : Node) (l : LinkId) (ss : List Send) → is_same_node l.from x ≡ false → AllByRecursion (λ (s : Send). s.0.from ≡ x) ss → sent_on l ss ≡ []
from_other x l [] apart all = refl
from_other x l (s ∷ ss) apart all = by (is_same_link l s.0) refl (from_other x l ss apart all.1)
  where
    itself : (n : Node) → is_same_node n n ≡ true
    itself T = refl
    itself M = refl
    itself A = refl
    itself B = refl

    by : (b : Bool) → is_same_link l s.0 ≡ b → sent_on l ss ≡ [] → (if b then s.1 ∷ [] else []) ++ sent_on l ss ≡ []
    by true same more =
        let at : l.from ≡ x = ap (λ (k : LinkId). k.from) (same_link l s.0 same) ∙ all.0 in
        absurd (let bad : true ≡ false = sym (ap (λ n. is_same_node n x) at ∙ itself x) ∙ apart in cc)
    by false other more = more

-- ---- copies

-- an event that makes a copy
abbrev is_again : Event → Bool
is_again (event.Again l i) = true
is_again _ = false

none_copied : (a : Answer) (e : Event) (standing : List (LinkId × Flight)) → is_again e ≡ false → copied_by a e standing ≡ None
none_copied (answer.No why) e standing no' = refl
none_copied answer.Ok (event.Again l i) standing no' = absurd (let bad : true ≡ false = no' in cc)
none_copied answer.Ok (event.Bearer id n first shape threshold policy) standing no' = refl
none_copied answer.Ok (event.Reshape id shape) standing no' = refl
none_copied answer.Ok (event.Remove id) standing no' = refl
none_copied answer.Ok (event.Add x) standing no' = refl
none_copied answer.Ok event.Change standing no' = refl
none_copied answer.Ok event.Release standing no' = refl
none_copied answer.Ok event.RekeySecond standing no' = refl
none_copied answer.Ok (event.RekeyMaster root) standing no' = refl
none_copied answer.Ok (event.Recover id) standing no' = refl
none_copied answer.Ok (event.Report x id) standing no' = refl
none_copied answer.Ok (event.Deny x on) standing no' = refl
none_copied answer.Ok (event.Ask x what) standing no' = refl
none_copied answer.Ok event.ScgFail standing no' = refl
none_copied answer.Ok (event.Submit id d sdu) standing no' = refl
none_copied answer.Ok (event.Step l i) standing no' = refl
none_copied answer.Ok (event.Lose l i) standing no' = refl

-- what happens to flights alone, but for a copy, puts nothing on a link
abbrev PutsNothing : Happening → Type 0
PutsNothing (on_links effects) = (effects.sends ≡ []) × (effects.notes ≡ [])
PutsNothing (given_to x i) = ⊤
PutsNothing (refused_for why) = ⊤

step_nothing : (w : World) (l : LinkId) (i : ℕ) (o : Option Flight) → PutsNothing (step_of w l i o)
step_nothing w l i None = tt
step_nothing w l i (Some f) = by (is_ordered l.class && nat_lt 0 i) (is_aged_for (node_at w l.to) (weight f))
  where
    by : (a b : Bool) → PutsNothing (if a then refused_for refusal.NotFirst else if b then refused_for refusal.Aged else given_to l.to (Come l f))
    by true b = tt
    by false true = tt
    by false false = tt

puts_nothing : (w : World) (e : Event) → is_again e ≡ false → PutsNothing (happening w e)
puts_nothing w (event.Again l i) no' = absurd (let bad : true ≡ false = no' in cc)
puts_nothing w (event.Bearer id n first shape threshold policy) no' = tt
puts_nothing w (event.Reshape id shape) no' = tt
puts_nothing w (event.Remove id) no' = tt
puts_nothing w (event.Add x) no' = tt
puts_nothing w event.Change no' = tt
puts_nothing w event.Release no' = tt
puts_nothing w event.RekeySecond no' = tt
puts_nothing w (event.RekeyMaster root) no' = tt
puts_nothing w (event.Recover id) no' = tt
puts_nothing w (event.Report x id) no' = tt
puts_nothing w (event.Deny x on) no' = tt
puts_nothing w (event.Ask x what) no' = tt
puts_nothing w event.ScgFail no' = tt
puts_nothing w (event.Submit id d sdu) no' = tt
puts_nothing w (event.Step l i) no' = step_nothing w l i (slice_get (flights_on l w.links) i)
puts_nothing w (event.Lose l i) no' = by (is_tunnel l.class) (slice_get (flights_on l w.links) i)
  where
    by : (b : Bool) (o : Option Flight) → PutsNothing (if b then loss_of o else refused_for refusal.NotTunnel)
    by false o = tt
    by true None = tt
    by true (Some f) = (refl, refl)

-- ---- the lines of an event

module _ (y : Node) (p : Past) (sent' : List Send) (has : HasSentBy y p sent') where
  -- after the lines of an outcome
  abbrev GoesOn : Event → Outcome → List Send → Type 0
  GoesOn e o own = EachLine (pdu_has_number_on (is_from y)) (judged e o.answer p) (lines_of o) × HasSentBy y (fold noted (judged e o.answer p) (lines_of o)) (sent' ++ own)

  -- where no copy is made: what the node sends follows on, and others send nothing from it
  lines_go : (e : Event) (o : Outcome) (own : List Send) → (judged e o.answer p).copied ≡ None
      → ((l : LinkId) → is_from y l ≡ true → (id g : ℕ) → puts_on l id g o.sends ≡ puts_on l id g own) → FollowOn sent' own → GoesOn e o own
  lines_go e o own none same follow = (
    lines_numbered (is_from y) (lines_of o) q none follows,
    record {
      next = λ l of is id g.
          lines_counted (is_from y) (lines_of o) q none follows l of id g
          ∙ ap (λ n. n + length (puts_on l id g (sends (lines_of o)))) (next_same l id g ∙ has.next l of is id g)
          ∙ ap (λ n. length (puts_on l id g sent') + n) (ap length (outcome_puts o l id g is ∙ same l of id g))
          ∙ sym (ap length (puts_append l id g sent' own) ∙ length-append (puts_on l id g sent') (puts_on l id g own));
      puts = λ l of is id g.
          lines_put (lines_of o) q none l id g
          ∙ ap (λ zs. zs ++ puts_on l id g (sends (lines_of o))) (ap (λ (t : Traffic). puts_in l id g t.pdus) copies ∙ has.puts l of is id g)
          ∙ ap (λ zs. puts_on l id g sent' ++ zs) (outcome_puts o l id g is ∙ same l of id g)
          ∙ sym (puts_append l id g sent' own);
    },
  )
    where
      q : Past
      q = judged e o.answer p

      copies : traffic (judged e o.answer p) ≡ record (traffic p) { copied = copied_by o.answer e p.standing }
      copies = judged_copies e o.answer p

      next_same : (l : LinkId) (id g : ℕ) → next_number (judged e o.answer p) l id g ≡ next_number p l id g
      next_same l id g = ap (λ (t : Traffic). next_in t.pdus l id g) copies

      follows : LinesFollow (is_from y) (judged e o.answer p) (lines_of o)
      follows l of id g = by (is_link l) refl
        where
          by : (b : Bool) → is_link l ≡ b → IsNumberedFrom (next_number (judged e o.answer p) l id g) (puts_on l id g (sends (lines_of o)))
          by true is =
              subst (λ n. IsNumberedFrom n (puts_on l id g (sends (lines_of o)))) (sym (next_same l id g ∙ has.next l of is id g))
              (subst (IsNumberedFrom (length (puts_on l id g sent'))) (sym (outcome_puts o l id g is ∙ same l of id g)) (follow l id g))
          by false is = subst (IsNumberedFrom (next_number (judged e o.answer p) l id g)) (sym (outcome_none o l id g is)) tt

  -- a refusal
  refused_go : (e : Event) (why : _) → GoesOn e (record { answer = answer.No why; notes = []; sends = [] }) []
  refused_go e why = lines_go e (record { answer = answer.No why; notes = []; sends = [] }) [] (ap (λ (t : Traffic). t.copied) (judged_copies e (answer.No why) p)) (λ l of id g. refl) (λ l id g. tt)

-- ---- the lines of a copy

module _ (these : LinkId → Bool) (l : LinkId) (f : Flight) (packet : is_same_packet f f ≡ true) where
  copy_numbered : (q : Past) → q.copied ≡ Some (l, f) → pdu_has_number_on these q (line.Send l f) ≡ true
  copy_numbered q copied = by (these l)
    where
      is : is_copy q l f ≡ true
      is = ap (λ o. is_some_and (λ (s : LinkId × Flight). is_same_link l s.0 && is_same_packet f s.1) o) copied ∙ rw (eq-eqb (link_number l) (link_number l) refl) packet

      by : (b : Bool) → (if b then is_copy q l f || is_none_or (has_next_number q l) (pdu_of f) else true) ≡ true
      by true = rw is refl
      by false = refl

  copies_go : (xs : List Line) (q : Past) → q.copied ≡ Some (l, f) → AllByRecursion (λ x. x ≡ line.Send l f) xs → EachLine (pdu_has_number_on these) q xs × (traffic (fold noted q xs) ≡ traffic q)
  copies_go [] q copied all = (tt, refl)
  copies_go (x ∷ xs) q copied all =
      subst (λ z. EachLine (pdu_has_number_on these) q (z ∷ xs) × (traffic (fold noted (noted q z) xs) ≡ traffic q)) (sym all.0)
      (let leaves = copy_leaves q l f (l, f) copied in
      let more = copies_go xs (noted q (line.Send l f)) (ap (λ (t : Traffic). t.copied) leaves ∙ copied) all.1 in
      ((copy_numbered q copied, more.0), more.1 ∙ leaves))

-- ---- an event, and a run

-- of a node: at each moment this is so of the past, the world and what the node sent. Then what the node sends follows on from it;
-- what another sends begins there; what stands in a tunnel is a packet that stands there by the past; and it lasts
module _ (c : Choices) (y : Node) (Fits : Event → Type 0) (Side : Past → World → List Send → Type 0)
    (follows : (p : Past) (w : World) (past : List Send) (e : Event) (i : Input) → Fits e → Side p w past → happening w e ≡ given_to y i → FollowOn past (carried_on c w (given_to y i)).1.sends)
    (begins : (p : Past) (w : World) (past : List Send) (x : Node) (i : Input) → Side p w past → AllByRecursion (λ (s : Send). s.0.from ≡ x) (carried_on c w (given_to x i)).1.sends)
    (copies : (p : Past) (w : World) (past : List Send) (l : LinkId) (i : ℕ) (f : Flight) → Side p w past → is_tunnel l.class ≡ true → slice_get (flights_on l w.links) i ≡ Some f
    → (find_at l i p.standing ≡ Some (l, f)) × (is_same_packet f f ≡ true))
    (lasts : (p : Past) (w : World) (past : List Send) (e : Event) → Fits e → Side p w past
    → Side (after p (world_step c w e).1) (world_step c w e).0 (past ++ sends_by y (happening w e) (carried_on c w (happening w e)).1.sends)) where
  module _ (p : Past) (w : World) (past : List Send) (side : Side p w past) (has : HasSentBy y p past) where
    -- after what happens
    abbrev Happens : Event → Happening → Type 0
    Happens e what = GoesOn y p past has e (carried_on c w what).1 (sends_by y what (carried_on c w what).1.sends)

    not_copied : (e : Event) (a : Answer) → is_again e ≡ false → (judged e a p).copied ≡ None
    not_copied e a no' = ap (λ (t : Traffic). t.copied) (judged_copies e a p) ∙ none_copied a e p.standing no'

    given_go : (e : Event) → Fits e → is_again e ≡ false → (x : Node) (i : Input) → happening w e ≡ given_to x i → Happens e (given_to x i)
    given_go e fits no' x i is = by (is_same_node y x) refl
      where
        o : Outcome
        o = (carried_on c w (given_to x i)).1

        by : (b : Bool) → is_same_node y x ≡ b → GoesOn y p past has e (carried_on c w (given_to x i)).1 (if b then (carried_on c w (given_to x i)).1.sends else [])
        by true same =
            lines_go y p past has e o o.sends (not_copied e o.answer no') (λ l of id g. refl)
            (subst (λ z. FollowOn past (carried_on c w (given_to z i)).1.sends) (same_node y x same)
            (follows p w past e i fits side (is ∙ ap (λ z. given_to z i) (sym (same_node y x same)))))
        by false apart =
            lines_go y p past has e o [] (not_copied e o.answer no')
            (λ l of id g. ap (puts_of id g) (from_other x l o.sends (ap (λ n. is_same_node n x) (same_node l.from y of) ∙ apart) (begins p w past x i side)))
            (λ l id g. tt)

    other_go : (e : Event) → Fits e → is_again e ≡ false → Happens e (happening w e)
    other_go e fits no' = by (happening w e) refl (puts_nothing w e no')
      where
        by : (what : Happening) → happening w e ≡ what → PutsNothing what → Happens e what
        by (given_to x i) is nothing = given_go e fits no' x i is
        by (refused_for why) is nothing = refused_go y p past has e why
        by (on_links effects) is nothing =
            lines_go y p past has e (carried_on c w (on_links effects)).1 [] (not_copied e answer.Ok no') (λ l of id g. ap (puts_on l id g) nothing.0) (λ l id g. tt)

    copied_go : (l : LinkId) (i : ℕ) (f : Flight) → is_tunnel l.class ≡ true → slice_get (flights_on l w.links) i ≡ Some f → Happens (event.Again l i) (on_links (sent l f))
    copied_go l i f tunnel at =
        let e = event.Again l i in
        let found = copies p w past l i f side tunnel at in
        let o = (carried_on c w (on_links (sent l f))).1 in
        let q = judged e answer.Ok p in
        let judged' = judged_copies e answer.Ok p in
        let all = each_line_of (λ x. x ≡ line.Send l f) o tt (refl, tt) in
        let goes = copies_go (is_from y) l f found.1 (lines_of o) q (ap (λ (t : Traffic). t.copied) judged' ∙ found.0) all in (
          goes.0,
          record {
            next = λ k of is id g.
                ap (λ (t : Traffic). next_in t.pdus k id g) (goes.1 ∙ judged') ∙ has.next k of is id g ∙ ap (λ zs. length (puts_on k id g zs)) (sym (append-nil past));
            puts = λ k of is id g.
                ap (λ (t : Traffic). puts_in k id g t.pdus) (goes.1 ∙ judged') ∙ has.puts k of is id g ∙ ap (puts_on k id g) (sym (append-nil past));
          },
        )

    copy_go : (l : LinkId) (i : ℕ) (b : Bool) → is_tunnel l.class ≡ b → (o : Option Flight) → slice_get (flights_on l w.links) i ≡ o → Happens (event.Again l i) (if b then copy_of l o else refused_for refusal.NotTunnel)
    copy_go l i false is o at = refused_go y p past has (event.Again l i) refusal.NotTunnel
    copy_go l i true is None at = refused_go y p past has (event.Again l i) refusal.NoFlight
    copy_go l i true is (Some f) at = copied_go l i f is at

    -- any event
    event_go : (e : Event) → Fits e → Happens e (happening w e)
    event_go (event.Again l i) fits = copy_go l i (is_tunnel l.class) refl (slice_get (flights_on l w.links) i) refl
    event_go (event.Bearer id n first shape threshold policy) fits = other_go (event.Bearer id n first shape threshold policy) fits refl
    event_go (event.Reshape id shape) fits = other_go (event.Reshape id shape) fits refl
    event_go (event.Remove id) fits = other_go (event.Remove id) fits refl
    event_go (event.Add x) fits = other_go (event.Add x) fits refl
    event_go event.Change fits = other_go event.Change fits refl
    event_go event.Release fits = other_go event.Release fits refl
    event_go event.RekeySecond fits = other_go event.RekeySecond fits refl
    event_go (event.RekeyMaster root) fits = other_go (event.RekeyMaster root) fits refl
    event_go (event.Recover id) fits = other_go (event.Recover id) fits refl
    event_go (event.Report x id) fits = other_go (event.Report x id) fits refl
    event_go (event.Deny x on) fits = other_go (event.Deny x on) fits refl
    event_go (event.Ask x what) fits = other_go (event.Ask x what) fits refl
    event_go event.ScgFail fits = other_go event.ScgFail fits refl
    event_go (event.Submit id d sdu) fits = other_go (event.Submit id d sdu) fits refl
    event_go (event.Step l i) fits = other_go (event.Step l i) fits refl
    event_go (event.Lose l i) fits = other_go (event.Lose l i) fits refl

  -- what a run comes to: each PDU that the node sends has the next number, and by the past it sent what it sent
  abbrev pub Numbers : Past → World → List Send → List Event → Type 0
  Numbers p w past es = Each (of_lines (pdu_has_number_on (is_from y))) p (entries_from c w es) × HasSentBy y (past_from p (entries_from c w es)) (past ++ sent_in y c w es)

  pub run_numbered : (es : List Event) → AllByRecursion Fits es → (p : Past) (w : World) (past : List Send) → Side p w past → HasSentBy y p past → Numbers p w past es
  run_numbered [] fits p w past side has = (tt, subst (HasSentBy y p) (sym (append-nil past)) has)
  run_numbered (e ∷ es) fits p w past side has =
      let own = sends_by y (happening w e) (carried_on c w (happening w e)).1.sends in
      let here = event_go p w past side has e fits.0 in
      let more = run_numbered es fits.1 (after p (world_step c w e).1) (world_step c w e).0 (past ++ own) (lasts p w past e fits.0 side) here.1 in (
        (here.0, refl, more.0),
        subst (HasSentBy y (past_from (after p (world_step c w e).1) (entries_from c (world_step c w e).0 es))) (append_assoc past own (sent_in y c (world_step c w e).0 es)) more.1,
      )
