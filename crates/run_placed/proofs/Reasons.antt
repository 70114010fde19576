-- What a secondary node notes of itself stands in its place, by the record that it was given and by what the past says of it.
use Rattle.std.proofs.Common.{ℕ, ◌≡◌, ◌==◌, ◌&&◌, ◌||◌, Bool, true, false, not, List, [], ◌∷◌, Option, Some, None, refl, sym, ap, ◌∙◌}
use Rattle.std.specs.Prelude.{if◌then◌else◌, is_none, is_some}
use Rattle.std.specs.Option.{option_and_then}
use Rattle.std.proofs.lemmas.Bool.{and_from, eq-eqb, or_left, or_right}
use Rattle.dc_base.specs.Nodes.{is_same_node}
use Rattle.dc_base.specs.declared.events.Note.TheVariants as note
use Rattle.dc_base.specs.declared.flights.Flight.{Flight}
use Rattle.dc_base.specs.declared.flights.Flight.TheVariants as flight
use Rattle.dc_base.specs.declared.nodes.LinkId.{LinkId}
use Rattle.dc_base.specs.declared.nodes.Node.{Node}
use Rattle.dc_base.specs.declared.answers.Word.{Word}
use Rattle.dc_base.specs.declared.records.Plan.{Plan}
use Rattle.dc_base.specs.declared.records.Rec.{Rec}
use Rattle.dc_base.specs.declared.records.Rec.TheVariants as rec
use Rattle.claims.specs.LicenceRecords.{Reply, Request, addition, due_reply, gives_record, release, reply_due, request_number}
use Rattle.claims.specs.Past.{Past}
use Rattle.claims.specs.Placed.{confirms_want, is_accepting, is_accepting_of, note_reason, refuses_want, tells_leave}
use Rattle.claims.specs.Reading.{given_record, given_to, second}
use Rattle.claims.specs.Sameness.{is_same_word, is_some_and}

-- the node was given this record
pub record IsGiven (p : Past) (x : Node) (r : Rec) : Type 0 where
  pub link : LinkId
  pub given : p.given ≡ Some (link, flight.Ctl r)
  pub to : is_same_node x link.to ≡ true

module _ (p : Past) (x : Node) where
  given_there : (r : Rec) → IsGiven p x r → given_to x p ≡ true
  given_there r is = ap (λ o. is_some_and (λ (s : LinkId × Flight). is_same_node x s.0.to) o) is.given ∙ is.to

  record_is : (r : Rec) → IsGiven p x r → given_record p ≡ Some r
  record_is r is = rw is.given refl

  gives : (r : Rec) → IsGiven p x r → (f : Rec → Bool) → f r ≡ true → gives_record f p ≡ true
  gives r is f yes' = ap (is_some_and f) (record_is r is) ∙ yes'

  due_is : (r : Rec) → IsGiven p x r → (y : Reply) → reply_due p x r ≡ Some y → due_reply p x ≡ Some y
  due_is r is y due =
      ap (λ b. if b then option_and_then (reply_due p x) (given_record p) else None) (given_there r is) ∙ ap (option_and_then (reply_due p x)) (record_is r is) ∙ due

  accepting : (k : Request) (g : ℕ) → due_reply p x ≡ Some (record { to = k; is_rejection = false; g = g }) → is_accepting_of p x k g ≡ true
  accepting k g due =
      and_from (is_accepting p x g) _ (ap (λ o. is_some_and (λ (y : Reply). not y.is_rejection && (y.g == g)) o) due ∙ eq-eqb g g refl)
      (ap (λ o. is_some_and (λ (y : Reply). request_number y.to == request_number k) o) due ∙ eq-eqb (request_number k) (request_number k) refl)

  pub joins : (q : Plan) (key : List ℕ) → IsGiven p x (rec.Addreq q key) → (second x p).joined ≡ false → (second x p).denies ≡ false → note_reason p (note.Join x q.g) ≡ true
  joins q key is out agrees =
      and_from _ _ (ap not out)
      (accepting addition q.g (due_is (rec.Addreq q key) is (record { to = addition; is_rejection = false; g = q.g })
      (ap (λ b. Some (record { to = addition; is_rejection = b; g = q.g })) agrees)))

  pub leaves_released : (q : Plan) → IsGiven p x (rec.Relreq q) → (second x p).joined ≡ true → ((second x p).denies && is_none q.sec) ≡ false → note_reason p (note.Leave x q.g) ≡ true
  leaves_released q is there agrees =
      and_from _ _ there
      (or_left _ _ (accepting release q.g (due_is (rec.Relreq q) is (record { to = release; is_rejection = false; g = q.g })
      (ap (λ b. Some (record { to = release; is_rejection = b; g = q.g })) agrees))))

  pub leaves_told : (r : Rec) (g : ℕ) → IsGiven p x r → tells_leave g r ≡ true → (second x p).joined ≡ true → note_reason p (note.Leave x g) ≡ true
  leaves_told r g is tells there =
      and_from _ _ there (or_right _ _ (and_from _ _ (given_there r is) (gives r is (tells_leave g) tells)))

  pub confirmed_there : (r : Rec) → IsGiven p x r → confirms_want r ≡ true → is_some (second x p).wants ≡ true → note_reason p (note.Confirmed x) ≡ true
  confirmed_there r is confirms wants = and_from _ _ (and_from _ _ wants (given_there r is)) (gives r is confirms_want confirms)

  pub refused_there : (r : Rec) (w : Word) → IsGiven p x r → refuses_want w r ≡ true → is_some (second x p).wants ≡ true → note_reason p (note.Refused x w) ≡ true
  refused_there r w is refuses wants = and_from _ _ (and_from _ _ wants (given_there r is)) (gives r is (refuses_want w) refuses)
