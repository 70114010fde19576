-- An anchor that takes an ack or a delivery status: nothing of its history changes, and what it keeps becomes less by what is
-- confirmed.
use Rattle.std.proofs.Common.{◌≡◌, ℕ, ◌+◌, ◌∷◌, [], true, false, Bool, List, Option, Some, None, zero, suc, fold, map, not, refl, sym, ap, ◌∙◌, inl, inr, ◌⊎◌, arith}
use Rattle.std.specs.Prelude.{◌==◌, filter, slice_get, slice_set}
use Rattle.std.specs.List.{AllByRecursion}
use Rattle.std.proofs.lemmas.Bool.{cases_Bool}
use Rattle.dc_base.specs.declared.nodes.Cell.{Cell}
use Rattle.dc_base.specs.declared.nodes.Cell.TheVariants.{Mcg, Scg}
use Rattle.nr_u.specs.declared.tunnel.outbound.Sent.{Sent}
use Rattle.nr_u.proofs.Filters.{all_filter}
use Rattle.pdcp_tx.specs.Sender.{counts, is_kept}
use Rattle.pdcp_tx.proofs.Laws.{is_kept-without}
use Rattle.split_leg.specs.declared.leg.Pdu.{Pdu}
use Rattle.split_leg.specs.Legs.{LegState, LegsState, is_settled_by, leg_at, set_acked, settle, settled_on_both, with_ack, with_leg}
use Rattle.split_leg.specs.Routes.{is_live}
use Rattle.node_rules.specs.Anchor.{Active}
use Rattle.node_rules.specs.Entity.{Entity, confirmed_where}
use Rattle.node_rules.specs.Setup.{anchor_cell, other_cell}
use Rattle.run_confirms.specs.Anchors.{AnchorSent, KeptOrReceived, as_sent, far_cell, has_live, own_cell, sent_on, was_put}
use Rattle.run_confirms.proofs.Arrivals.{each_with}

-- ---- legs on which the same was put

-- the same was put on both legs, and they failed as before
pub record SameSends (a b : LegsState) : Type 0 where
  pub shape : b.shape ≡ a.shape
  pub mcg : sent_on b.mcg ≡ sent_on a.mcg
  pub scg : sent_on b.scg ≡ sent_on a.scg
  pub mcg_failed : b.mcg.failed ≡ a.mcg.failed
  pub scg_failed : b.scg.failed ≡ a.scg.failed

pub same_none : (a : LegsState) → SameSends a a
same_none a = record { shape = refl; mcg = refl; scg = refl; mcg_failed = refl; scg_failed = refl }

pub same_more : (a b c : LegsState) → SameSends a b → SameSends b c → SameSends a c
same_more a b c one two = record {
  shape = two.shape ∙ one.shape;
  mcg = two.mcg ∙ one.mcg;
  scg = two.scg ∙ one.scg;
  mcg_failed = two.mcg_failed ∙ one.mcg_failed;
  scg_failed = two.scg_failed ∙ one.scg_failed;
}

settled_pdus : (first end : ℕ) (pdus : List Pdu) → map as_sent (map (settle first end) pdus) ≡ map as_sent pdus
settled_pdus first end [] = refl
settled_pdus first end (p ∷ pdus) = rw (one (is_settled_by first end p) refl, settled_pdus first end pdus) refl
  where
    one : (b : Bool) → is_settled_by first end p ≡ b → as_sent (settle first end p) ≡ as_sent p
    one true is = rw is refl
    one false is = rw is refl

settled_same : (first end : ℕ) (legs : LegsState) → SameSends legs (settled_on_both first end legs)
settled_same first end legs =
    record { shape = refl; mcg = settled_pdus first end legs.mcg.pdus; scg = settled_pdus first end legs.scg.pdus; mcg_failed = refl; scg_failed = refl }

pub all_settled_same : (legs : LegsState) (cs : List ℕ) → SameSends legs (fold (λ (legs : LegsState) (c : ℕ). settled_on_both c (c + 1) legs) legs cs)
all_settled_same legs [] = same_none legs
all_settled_same legs (c ∷ cs) = same_more legs (settled_on_both c (c + 1) legs) _ (settled_same c (c + 1) legs) (all_settled_same (settled_on_both c (c + 1) legs) cs)

set_same : (pdus : List Pdu) (num : ℕ) (p : Pdu) → slice_get pdus num ≡ Some p → map as_sent (slice_set pdus num (record p { acked = true })) ≡ map as_sent pdus
set_same [] num p at = absurd cc
set_same (x ∷ pdus) zero p at =
    let same : x ≡ p = cc in
    ap (λ (s : Sent). s ∷ map as_sent pdus) (ap as_sent (sym same))
set_same (x ∷ pdus) (suc num) p at = ap (λ (xs : List Sent). as_sent x ∷ xs) (set_same pdus num p at)

acked_same : (leg : LegState) (num : ℕ) → sent_on (with_ack leg num) ≡ sent_on leg
acked_same leg num = by (slice_get leg.pdus num) refl
  where
    by : (o : Option Pdu) → slice_get leg.pdus num ≡ o → map as_sent (set_acked leg.pdus num o) ≡ map as_sent leg.pdus
    by None at = refl
    by (Some p) at = set_same leg.pdus num p at

pub ack_same : (legs : LegsState) (cell : Cell) (num : ℕ) → SameSends legs (with_leg legs cell (with_ack (leg_at legs cell) num))
ack_same legs Mcg num = record { shape = refl; mcg = acked_same legs.mcg num; scg = refl; mcg_failed = refl; scg_failed = refl }
ack_same legs Scg num = record { shape = refl; mcg = refl; scg = acked_same legs.scg num; mcg_failed = refl; scg_failed = refl }

same_at : (cell : Cell) (a b : LegsState) → SameSends a b → sent_on (leg_at b cell) ≡ sent_on (leg_at a cell)
same_at Mcg a b same = same.mcg
same_at Scg a b same = same.scg

same_live : (cell : Cell) (a b : LegsState) → SameSends a b → is_live b cell ≡ is_live a cell
same_live Mcg a b same = rw (same.shape, same.mcg_failed) refl
same_live Scg a b same = rw (same.shape, same.scg_failed) refl

pub same_put : (a b : LegsState) (count : ℕ) → SameSends a b → was_put b count ≡ was_put a count
same_put a b count same = rw (same.mcg, same.scg) refl

-- ---- an anchor with less that it keeps

-- the history stays when nothing is put on the legs and nothing more is kept
pub less_kept : (air : List (Option ℕ)) (tun : List Sent) (a : Active) (e : Entity) → SameSends a.entity.setup.legs e.setup.legs
    → e.setup.n ≡ a.entity.setup.n → e.tx.next ≡ a.entity.tx.next
    → ((P : ℕ × List ℕ → Type 0) → AllByRecursion P a.entity.tx.kept → AllByRecursion P e.tx.kept) → AnchorSent air tun a
    → AnchorSent air tun (record a { entity = e })
less_kept air tun a e same n next less is =
    let before = a.entity.setup.legs in
    let after = e.setup.legs in
    let own_is : own_cell e ≡ own_cell a.entity = ap anchor_cell same.shape in
    let far_is : far_cell e ≡ far_cell a.entity = ap other_cell own_is in
    let live : has_live after ≡ has_live before = rw (same_live Mcg before after same, same_live Scg before after same) refl in
    record {
      sent = record {
        own = ap (λ (cell : Cell). map (λ (s : Sent). s.count) (sent_on (leg_at after cell))) own_is ∙ ap (map (λ (s : Sent). s.count)) (same_at (own_cell a.entity) before after same) ∙ is.sent.own;
        far = ap (λ (cell : Cell). sent_on (leg_at after cell)) far_is ∙ same_at (far_cell a.entity) before after same ∙ is.sent.far;
        history = is.sent.history;
        unasked = is.sent.unasked;
        rise = is.sent.rise;
        below = λ number count at. omega (arith, next, is.sent.below number count at);
        marks = is.sent.marks;
        same_n = is.sent.same_n ∙ sym n;
      };
      closed = is.closed;
      all_sent = λ opened some.
          each_with (λ (x : ℕ × List ℕ). was_put before x.0 ≡ true) (λ (x : ℕ × List ℕ). was_put after x.0 ≡ true) e.tx.kept
          (less (λ (x : ℕ × List ℕ). was_put before x.0 ≡ true) (is.all_sent opened (sym live ∙ some))) (λ x there. same_put before after x.0 same ∙ there);
    }

pub filter_less : {X : Type 0} (P : X → Type 0) (test : X → Bool) (xs : List X) → AllByRecursion P xs → AllByRecursion P (filter test xs)
filter_less P test xs all = all_filter P P test xs all (λ x is passes. is)

-- COUNTs are confirmed
pub confirmed_sent : (air : List (Option ℕ)) (tun : List Sent) (a : Active) (test : ℕ → Bool) → AnchorSent air tun a
    → AnchorSent air tun (record a { entity = confirmed_where test a.entity })
confirmed_sent air tun a test is =
    less_kept air tun a (confirmed_where test a.entity) (all_settled_same a.entity.setup.legs (filter test (counts a.entity.tx.kept))) refl refl
    (λ P all. filter_less P (λ (x : ℕ × List ℕ). not (test x.0)) a.entity.tx.kept all) is

-- what is kept is there by its COUNT
kept_self : (es : List (ℕ × List ℕ)) → AllByRecursion (λ (x : ℕ × List ℕ). is_kept es x.0 ≡ true) es
kept_self [] = tt
kept_self (x ∷ es) = (head x.0 x.1, each_with (λ (y : ℕ × List ℕ). is_kept es y.0 ≡ true) (λ (y : ℕ × List ℕ). is_kept (x ∷ es) y.0 ≡ true) es (kept_self es) (λ y there. later y.0 there))
  where
    head : (c : ℕ) (sdu : List ℕ) → is_kept ((c, sdu) ∷ es) c ≡ true
    head c sdu = grind arith

    later : (c : ℕ) → is_kept es c ≡ true → is_kept (x ∷ es) c ≡ true
    later c there = elim (cases_Bool (x.0 == c)) [ inl is ↦ rw is refl | inr not_is ↦ rw not_is there ]

pub all_kept : (received : ℕ → Type 0) (es : List (ℕ × List ℕ)) → KeptOrReceived received es es
all_kept received es =
    each_with (λ (x : ℕ × List ℕ). is_kept es x.0 ≡ true) (λ (x : ℕ × List ℕ). (is_kept es x.0 ≡ true) ⊎ received x.0) es (kept_self es) (λ x there. inl there)

-- what is not kept any more was received, if all that is confirmed was
pub confirmed_found : (received : ℕ → Type 0) (test : ℕ → Bool) (e : Entity) → ((count : ℕ) → test count ≡ true → received count)
    → KeptOrReceived received e.tx.kept (confirmed_where test e).tx.kept
confirmed_found received test e came =
    each_with (λ (x : ℕ × List ℕ). is_kept e.tx.kept x.0 ≡ true) (λ (x : ℕ × List ℕ). (is_kept (confirmed_where test e).tx.kept x.0 ≡ true) ⊎ received x.0) e.tx.kept (kept_self e.tx.kept) one
  where
    one : (x : ℕ × List ℕ) → is_kept e.tx.kept x.0 ≡ true → (is_kept (confirmed_where test e).tx.kept x.0 ≡ true) ⊎ received x.0
    one x kept = elim (cases_Bool (test x.0)) [
      | inl passes ↦ inr (came x.0 passes)
      | inr fails ↦ inl (is_kept-without test e.tx.kept x.0 ∙ rw (kept, fails) refl)
    ]
