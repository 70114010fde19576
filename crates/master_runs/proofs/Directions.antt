-- The two directions, and a bearer and direction that is the one named or another.
use Rattle.std.proofs.Common.{ℕ, ◌≡◌, ◌⊎◌, ◌==◌, true, false, refl, sym, ap, ◌∙◌, inl, inr, subst, List, Option}
use Rattle.std.specs.Prelude.{◌&&◌, Contains}
use Rattle.std.proofs.lemmas.Bool.{cases_Bool, eqb-true, eqb-false}
use Rattle.dc_base.specs.declared.nodes.Dir.{Dir}
use Rattle.dc_base.specs.declared.nodes.Dir.TheVariants.{Ul, Dl}
use Rattle.dc_base.specs.Nodes.{is_same_dir}
use Rattle.dc_base.specs.Links.{is_same_link, reverse}
use Rattle.transcript.specs.Content.{direction}
use Rattle.transcript.specs.Bearers.{Established, submitter, established}
use Rattle.transcript.proofs.Establishing.{IsOnce, same_bearer}
use Rattle.master_runs.specs.Plane.{leg, other}
use Rattle.dc_base.specs.declared.events.Header.{Header}
use Rattle.transcript.specs.Transcript.{Entry}
use Rattle.transcript.specs.Claims.{ProtectsSubmission}

-- a direction is this one or the other
pub cases_dir : (d k : Dir) → (k ≡ d) ⊎ (k ≡ other d)
cases_dir Ul Ul = inl refl
cases_dir Ul Dl = inr refl
cases_dir Dl Ul = inr refl
cases_dir Dl Dl = inl refl

-- and not both
pub not_other : (d : Dir) → d ≡ other d → ⊥
not_other Ul is = cc
not_other Dl is = cc

-- a direction is the same as itself
pub same_dir : (d : Dir) → is_same_dir d d ≡ true
same_dir Ul = refl
same_dir Dl = refl

-- the two directions are two
pub other_dir : (d : Dir) → is_same_dir d (other d) ≡ false
other_dir Ul = refl
other_dir Dl = refl

-- the leg of a direction carries it
pub direction_leg : (d : Dir) → direction (leg d) ≡ d
direction_leg Ul = refl
direction_leg Dl = refl

-- a leg is the same as itself
pub same_leg : (d : Dir) → is_same_link (leg d) (leg d) ≡ true
same_leg Dl = refl
same_leg Ul = refl

-- the legs of the two directions are two
pub other_leg : (d : Dir) → is_same_link (leg (other d)) (leg d) ≡ false
other_leg Dl = refl
other_leg Ul = refl

-- a leg leads from the node that sends in its direction
pub leg_from : (d : Dir) → (leg d).from ≡ submitter d
leg_from Dl = refl
leg_from Ul = refl

-- the other leg is the same link turned round
pub leg_back : (d : Dir) → leg (other d) ≡ reverse (leg d)
leg_back Dl = refl
leg_back Ul = refl

-- another direction, or another identity
abbrev pub Apart : Dir → ℕ → Dir → ℕ → Type 0
Apart d id d' id' = (d' ≡ other d) ⊎ ((id == id') ≡ false)

-- a bearer in a direction is the one named, or another
pub parted : (d : Dir) (id : ℕ) (d' : Dir) (id' : ℕ) → ((d' ≡ d) × (id' ≡ id)) ⊎ Apart d id d' id'
parted d id d' id' =
    elim (cases_Bool (id == id')) [
      | inl here ↦ elim (cases_dir d d') [ inl same ↦ inl (same, sym (eqb-true id id' here)) | inr turned ↦ inr (inl turned) ]
      | inr apart ↦ inr (inr apart)
    ]

-- in the same direction it has another identity
pub other_id : (d : Dir) (id id' : ℕ) → Apart d id d id' → (id == id') ≡ false
other_id d id id' apart = elim apart [ inl turned ↦ absurd (not_other d turned) | inr unlike ↦ unlike ]

-- so it is not the one named
pub not_apart : (d : Dir) (id : ℕ) (d' : Dir) (id' : ℕ) → Apart d id d' id' → d' ≡ d → id ≡ id' → ⊥
not_apart d id d' id' apart same is = eqb-false id id' (other_id d id id' (subst (λ k. Apart d id k id') same apart)) is

-- and a line of the one named is not of the other
pub not_named : (d : Dir) (id : ℕ) (d' : Dir) (id' : ℕ) → Apart d id d' id' → ((id == id') && is_same_dir d d') ≡ false
not_named d id d' id' (inl turned) =
    let other' : is_same_dir d d' ≡ false = ap (is_same_dir d) turned ∙ other_dir d in
    elim (cases_Bool (id == id')) [ inl same ↦ rw (same, other') refl | inr apart ↦ rw apart refl ]
not_named d id d' id' (inr apart) = rw apart refl

-- what holds of a bearer in a direction, and of every other, holds of all
pub each_bearer : (bs : List Established) → IsOnce bs → (b : Established) → Contains bs b → (d : Dir) (id : ℕ) → b.id ≡ id → (P : Established → Dir → Type 0) → P b d
    → ((x : Established) (k : Dir) → Contains bs x → Apart d id k x.id → P x k) → (x : Established) (k : Dir) → Contains bs x → P x k
each_bearer bs once b there d id named P here elsewhere x k at =
    elim (parted d id k x.id) [
      | inl it ↦ subst (λ y. P y k) (same_bearer bs b x once there at (named ∙ sym it.1)) (subst (P b) (sym it.0) here)
      | inr apart ↦ elsewhere x k at apart
    ]

-- a PDU on the leg of a direction, of one bearer, protects a submission of whichever bearer has its identity and direction
pub protects_whichever : (h : Header) (t t' : List Entry) → IsOnce (established t) → (b x : Established) (d k : Dir) (tag : Option ℕ) (pdu : List ℕ) → Contains (established t) b → Contains (established t) x
    → b.id ≡ x.id → direction (leg d) ≡ k → ProtectsSubmission h t' b d b.g tag pdu → ProtectsSubmission h t' x k b.g tag pdu
protects_whichever h t t' once b x d k tag pdu here there named turned protected =
    let same : x ≡ b = same_bearer (established t) x b once there here (sym named) in
    let dir : k ≡ d = sym (sym (direction_leg d) ∙ turned) in
    subst (λ j. ProtectsSubmission h t' x j b.g tag pdu) (sym dir) (subst (λ y. ProtectsSubmission h t' y d b.g tag pdu) (sym same) protected)
