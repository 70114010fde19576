-- The claims that follow from the form of a run.
use Rattle.std.proofs.Common.{ℕ, ◌≡◌, ◌++◌, Bool, true, List, [], ◌∷◌, Some, refl, ap, ◌∙◌}
use Rattle.std.specs.Prelude.{◌&&◌}
use Rattle.std.specs.List.{AllByRecursion}
use Rattle.dc_base.specs.Links.{is_link}
use Rattle.dc_base.specs.declared.flights.Flight.{Flight}
use Rattle.dc_base.specs.declared.events.Event.{Event}
use Rattle.dc_base.specs.declared.events.Header.{Header}
use Rattle.dc_base.specs.declared.events.Line.{Line}
use Rattle.dc_base.specs.declared.events.Line.TheVariants as line
use Rattle.dc_base.specs.declared.events.Note.{Note}
use Rattle.dc_base.specs.declared.nodes.LinkId.{LinkId}
use Rattle.transcript.specs.Transcript.{Entry, sends}
use Rattle.transcript.proofs.OnEach.{each_weaker}
use Rattle.claims.specs.Claim.{Each, EachLine, of_lines}
use Rattle.claims.specs.Names.{claim, consequence, on_link, ordered}
use Rattle.claims.specs.OnLink.{flight_fits, is_consequence, is_on_link}
use Rattle.claims.specs.Order.{is_in_order, last_line}
use Rattle.claims.specs.Past.{Past, new_past}
use Rattle.claims.specs.Judged.{judged}
use Rattle.claims.specs.Noted.{after, noted}
use Rattle.node_rules.specs.Choices.{Choices, Send}
use Rattle.node_rules.specs.Lines.{lines_of}
use Rattle.node_rules.specs.Run.{carried_on, entries_from, happening, world_step}
use Rattle.node_rules.specs.World.{World, new_world}
use Rattle.node_rules.specs.declared.inputs.Outcome.{Outcome}
use Rattle.run_words.specs.Sorted.{AreInOrder, FollowOn}
use Rattle.run_words.specs.Standing.{Moment}
use Rattle.run_words.proofs.Keeping.{judged_stands, noted_stands}
use Rattle.run_words.proofs.Lines.{each_line_of}

-- a test that holds of each line whatever the past is
each_of : (f : Past → Line → Bool) (p : Past) (xs : List Line) → AllByRecursion (λ x. (q : Past) → f q x ≡ true) xs → EachLine f p xs
each_of f p [] all = tt
each_of f p (x ∷ xs) all = (all.0 p, each_of f (noted p x) xs all.1)

-- a claim on lines holds of a transcript where it holds of each entry's
each_entry : (f : Past → Line → Bool) (t : List Entry) (p : Past) → AllByRecursion (λ x. (q : Past) → EachLine f (judged x.event x.answer q) x.lines) t → Each (of_lines f) p t
each_entry f [] p all = tt
each_entry f (x ∷ t) p all = (all.0 p, refl, each_entry f t (after p x) all.1)

-- what is so of the lines of every outcome is so of each entry of a run
module _ (P : List Line → Type 0) (every : (o : Outcome) → P (lines_of o)) where
  of_each_entry : (c : Choices) (es : List Event) (v : World) → AllByRecursion (λ x. P x.lines) (entries_from c v es)
  of_each_entry c [] v = tt
  of_each_entry c (e ∷ es) v = (every (carried_on c v (happening v e)).1, of_each_entry c es (world_step c v e).0)

-- ---- a consequence is a note or a send

each_note_is : (ns : List Note) → AllByRecursion (λ n. (q : Past) → is_consequence q (line.Note n) ≡ true) ns
each_note_is [] = tt
each_note_is (n ∷ ns) = (λ q. refl, each_note_is ns)

each_send_is : (ss : List Send) → AllByRecursion (λ s. (q : Past) → is_consequence q (line.Send s.0 s.1) ≡ true) ss
each_send_is [] = tt
each_send_is (s ∷ ss) = (λ q. refl, each_send_is ss)

consequences_of : (o : Outcome) (p : Past) → EachLine is_consequence p (lines_of o)
consequences_of o p = each_of is_consequence p (lines_of o) (each_line_of (λ x. (q : Past) → is_consequence q x ≡ true) o (each_note_is o.notes) (each_send_is o.sends))

pub consequence_holds : (c : Choices) (h : Header) (policies : ℕ) (es : List Event) → Each (claim consequence) (new_past h policies) (entries_from c (new_world h) es)
consequence_holds c h policies es =
    let t = entries_from c (new_world h) es in
    let P : List Line → Type 0 = λ xs. (q : Past) → EachLine is_consequence q xs in
    each_entry is_consequence t (new_past h policies)
    (each_weaker (λ (x : Entry). P x.lines) (λ x. (q : Past) → EachLine is_consequence (judged x.event x.answer q) x.lines) (λ x all q. all (judged x.event x.answer q)) t
    (of_each_entry P consequences_of c es (new_world h)))

-- ---- the order, where each event's lines are in it

-- the last of lines and one more
last_more : (xs : List Line) (x : Line) → last_line (xs ++ x ∷ []) ≡ Some x
last_more [] x = refl
last_more (y ∷ []) x = refl
last_more (y ∷ z ∷ xs) x = last_more (z ∷ xs) x

-- what comes after a line
follows_on : (y : Line) (xs : List Line) (p : Past) → last_line p.said ≡ Some y → FollowOn y xs → EachLine is_in_order p xs
follows_on y [] p last in_order = tt
follows_on y (x ∷ xs) p last in_order =
    let said : (noted p x).said ≡ p.said ++ x ∷ [] = ap (λ (m : Moment). m.said) (noted_stands p x) in
    (rw last in_order.0, follows_on x xs (noted p x) (ap last_line said ∙ last_more p.said x) in_order.1)

in_order_from : (xs : List Line) (p : Past) → p.said ≡ [] → AreInOrder xs → EachLine is_in_order p xs
in_order_from [] p none in_order = tt
in_order_from (x ∷ xs) p none in_order =
    let said : (noted p x).said ≡ x ∷ [] = ap (λ (m : Moment). m.said) (noted_stands p x) ∙ ap (λ ys. ys ++ x ∷ []) none in
    (rw none refl, follows_on x xs (noted p x) (ap last_line said) in_order)

-- the claim holds of a transcript where the lines of each entry are in their order, whatever the past is
pub ordered_if : (h : Header) (policies : ℕ) (t : List Entry) → AllByRecursion (λ x. AreInOrder x.lines) t → Each (claim ordered) (new_past h policies) t
ordered_if h policies t all =
    each_entry is_in_order t (new_past h policies)
    (each_weaker (λ (x : Entry). AreInOrder x.lines) (λ x. (q : Past) → EachLine is_in_order (judged x.event x.answer q) x.lines)
    (λ x in_order q. in_order_from x.lines (judged x.event x.answer q) (ap (λ (m : Moment). m.said) (judged_stands x.event x.answer q)) in_order) t all)

-- ---- who sends on which link, where each flight fits its link

-- a send may stand
abbrev pub MaySend : LinkId × Flight → Type 0
MaySend s = (is_link s.0 && flight_fits s.0 s.1) ≡ true

each_fits : (xs : List Line) (p : Past) → AllByRecursion MaySend (sends xs) → EachLine is_on_link p xs
each_fits [] p all = tt
each_fits (line.Note n ∷ xs) p all = (refl, each_fits xs (noted p (line.Note n)) all)
each_fits (line.Send l f ∷ xs) p all = (all.0, each_fits xs (noted p (line.Send l f)) all.1)
each_fits (line.Event e ∷ xs) p all = (refl, each_fits xs (noted p (line.Event e)) all)
each_fits (line.Answer a ∷ xs) p all = (refl, each_fits xs (noted p (line.Answer a)) all)

pub on_link_if : (h : Header) (policies : ℕ) (t : List Entry) → AllByRecursion (λ x. AllByRecursion MaySend (sends x.lines)) t → Each (claim on_link) (new_past h policies) t
on_link_if h policies t all =
    each_entry is_on_link t (new_past h policies)
    (each_weaker (λ (x : Entry). AllByRecursion MaySend (sends x.lines)) (λ x. (q : Past) → EachLine is_on_link (judged x.event x.answer q) x.lines)
    (λ x fits q. each_fits x.lines (judged x.event x.answer q) fits) t all)
