-- The links after a flight on the leg of a direction is sent, or taken away.
use Rattle.std.proofs.Common.{◌∷◌, ℕ, ◌≡◌, ◌⊎◌, ◌++◌, List, [], Some, length, slice_get, refl, sym, ap, ◌∙◌, subst, inl, inr, Option, None}
use Rattle.std.specs.List.{remove}
use Rattle.std.proofs.lemmas.List.{append-nil}
use Rattle.dc_base.specs.declared.nodes.Dir.{Dir}
use Rattle.dc_base.specs.declared.nodes.Dir.TheVariants.{Ul, Dl}
use Rattle.dc_base.specs.declared.nodes.LinkId.{LinkId}
use Rattle.dc_base.specs.declared.flights.Flight.{Flight}
use Rattle.dc_base.specs.declared.events.Line.{Line}
use Rattle.transcript.specs.Content.{mt_ctl, tm_ctl, without_taken, put_on, mt_air, tm_air}
use Rattle.transcript.specs.Bearers.{Established}
use Rattle.master_runs.specs.Plane.{leg, other}
use Rattle.master_runs.specs.Links.{Links, on, moved}
use Rattle.master_runs.proofs.Sound.{CarriesCount, IsUnderWay, IsPduOf, IsReportOf, IsAckOf, PromiseOf, a_pdu, a_report, an_ack}
use Rattle.master_runs.proofs.Moving.{on_moved}
use Rattle.master_runs.proofs.Directions.{cases_dir}
use Rattle.master_runs.proofs.Served.{under_way_left, under_way_but}
use Rattle.dc_base.specs.declared.events.Line.TheVariants as line
use Rattle.dc_base.specs.declared.events.Header.{Header}
use Rattle.transcript.specs.Transcript.{Entry}
use Rattle.master_runs.specs.Control.{Nodes}

-- what is sent on a leg is no command
pub no_command : (d : Dir) (f : Flight) → put_on mt_ctl (line.Send (leg d) f ∷ []) ≡ []
no_command Dl f = refl
no_command Ul f = refl

-- and answers none
pub no_completion : (d : Dir) (f : Flight) → put_on tm_ctl (line.Send (leg d) f ∷ []) ≡ []
no_completion Dl f = refl
no_completion Ul f = refl

-- it stands on the leg of its direction
pub own_leg : (d : Dir) (f : Flight) → put_on (leg d) (line.Send (leg d) f ∷ []) ≡ f ∷ []
own_leg Dl f = refl
own_leg Ul f = refl

-- a PDU of the direction of its leg is promised
pub promised : (h : Header) (t : List Entry) (s : Nodes) (d : Dir) (f : Flight) → IsPduOf h t s d f → PromiseOf h t s (leg d, f)
promised h t s Dl f pdu = a_pdu pdu
promised h t s Ul f pdu = a_pdu pdu

-- a report of the direction of its leg is promised
pub report_promised : (h : Header) (t : List Entry) (s : Nodes) (d : Dir) (f : Flight) → IsReportOf t s d f → PromiseOf h t s (leg d, f)
report_promised h t s Dl f r = a_report r
report_promised h t s Ul f r = a_report r

-- a confirm of what came on a leg is promised on the other
pub ack_promised : (h : Header) (t : List Entry) (s : Nodes) (d : Dir) (f : Flight) → IsAckOf t s d f → PromiseOf h t s (leg (other d), f)
ack_promised h t s Dl f ack = an_ack ack
ack_promised h t s Ul f ack = an_ack ack

-- where nothing is taken away, what was under way is so still
pub flying_put : (links : Links) → length links ≡ 64 → (lines : List Line) (b : Established) (d : Dir) (c : ℕ) → IsUnderWay b c (on links (leg d)) → IsUnderWay b c (on (moved links None lines) (leg d))
flying_put links long lines b d c way =
    subst (IsUnderWay b c) (sym (on_moved links None lines (leg d) long)) (under_way_left b c (on links (leg d)) (put_on (leg d) lines) way)

-- the legs are as before where nothing is taken from them, or put there
pub legs_same : (links : Links) (place : Option (LinkId × ℕ)) (lines : List Line) → length links ≡ 64
    → without_taken mt_air place (on links mt_air) ≡ on links mt_air → without_taken tm_air place (on links tm_air) ≡ on links tm_air
    → put_on mt_air lines ≡ [] → put_on tm_air lines ≡ [] → (d : Dir) → on (moved links place lines) (leg d) ≡ on links (leg d)
legs_same links place lines long down up none none' Dl =
    on_moved links place lines mt_air long ∙ ap (λ fs. without_taken mt_air place (on links mt_air) ++ fs) none ∙ append-nil _ ∙ down
legs_same links place lines long down up none none' Ul =
    on_moved links place lines tm_air long ∙ ap (λ fs. without_taken tm_air place (on links tm_air) ++ fs) none' ∙ append-nil _ ∙ up

module _ (links : Links) (long : length links ≡ 64) (d : Dir) (i : ℕ) (f : Flight) (at : slice_get (on links (leg d)) i ≡ Some f) (lines : List Line) where
  -- what stands on a link then
  pub moved_on : (l : LinkId) → on (moved links (Some (leg d, i)) lines) l ≡ without_taken l (Some (leg d, i)) (on links l) ++ put_on l lines
  moved_on l = on_moved links (Some (leg d, i)) lines l long

  -- on its own leg the others are still under way
  flying_same : (x : Established) (a : ℕ) → IsUnderWay x a (on links (leg d)) → CarriesCount x a f ⊎ IsUnderWay x a (on (moved links (Some (leg d, i)) lines) (leg d))
  flying_same x a way =
      let left : without_taken (leg d) (Some (leg d, i)) (on links (leg d)) ≡ remove (on links (leg d)) i = own d in
      elim (under_way_but x a i f (on links (leg d)) at way) [
        | inl it ↦ inl it
        | inr still ↦ inr (subst (IsUnderWay x a) (sym (moved_on (leg d)))
            (under_way_left x a _ (put_on (leg d) lines) (subst (IsUnderWay x a) (sym left) still)))
      ]
    where
      own : (k : Dir) → without_taken (leg k) (Some (leg k, i)) (on links (leg k)) ≡ remove (on links (leg k)) i
      own Ul = refl
      own Dl = refl

  -- and on the other leg all are
  flying_other : (x : Established) (a : ℕ) → IsUnderWay x a (on links (leg (other d))) → IsUnderWay x a (on (moved links (Some (leg d, i)) lines) (leg (other d)))
  flying_other x a way =
      let left : without_taken (leg (other d)) (Some (leg d, i)) (on links (leg (other d))) ≡ on links (leg (other d)) = apart d in
      subst (IsUnderWay x a) (sym (moved_on (leg (other d))))
      (under_way_left x a _ (put_on (leg (other d)) lines) (subst (IsUnderWay x a) (sym left) way))
    where
      apart : (k : Dir) → without_taken (leg (other k)) (Some (leg k, i)) (on links (leg (other k))) ≡ on links (leg (other k))
      apart Ul = refl
      apart Dl = refl

  -- what was under way is so still, or it was this flight
  pub flying_after : (x : Established) (k : Dir) (a : ℕ) → IsUnderWay x a (on links (leg k))
      → ((k ≡ d) × CarriesCount x a f) ⊎ IsUnderWay x a (on (moved links (Some (leg d, i)) lines) (leg k))
  flying_after x k a =
      let P : Dir → Type 0 = λ k. IsUnderWay x a (on links (leg k)) → ((k ≡ d) × CarriesCount x a f) ⊎ IsUnderWay x a (on (moved links (Some (leg d, i)) lines) (leg k)) in
      elim (cases_dir d k) [
        | inl same ↦ subst P (sym same) (λ way. elim (flying_same x a way) [ inl it ↦ inl (refl, it) | inr still ↦ inr still ])
        | inr apart ↦ subst P (sym apart) (λ way. inr (flying_other x a way))
      ]

  -- the control links are as before where nothing is put there
  pub control_down : put_on mt_ctl lines ≡ [] → on (moved links (Some (leg d, i)) lines) mt_ctl ≡ on links mt_ctl
  control_down none = moved_on mt_ctl ∙ ap (λ fs. without_taken mt_ctl (Some (leg d, i)) (on links mt_ctl) ++ fs) none ∙ append-nil _ ∙ apart d
    where
      apart : (k : Dir) → without_taken mt_ctl (Some (leg k, i)) (on links mt_ctl) ≡ on links mt_ctl
      apart Ul = refl
      apart Dl = refl

  -- and the one to the master too
  pub control_up : put_on tm_ctl lines ≡ [] → on (moved links (Some (leg d, i)) lines) tm_ctl ≡ on links tm_ctl
  control_up none = moved_on tm_ctl ∙ ap (λ fs. without_taken tm_ctl (Some (leg d, i)) (on links tm_ctl) ++ fs) none ∙ append-nil _ ∙ apart d
    where
      apart : (k : Dir) → without_taken tm_ctl (Some (leg k, i)) (on links tm_ctl) ≡ on links tm_ctl
      apart Ul = refl
      apart Dl = refl
