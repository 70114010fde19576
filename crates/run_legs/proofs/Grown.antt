-- Legs on which more and more is put.
use Rattle.std.proofs.Common.{ℕ, ◌≡◌, ◌+◌, ◌++◌, ◌∷◌, [], true, false, Bool, List, length, map, filter, not, refl, sym, ap, ◌∙◌, subst, arith, length-append, append_assoc}
use Rattle.std.specs.Prelude.{◌&&◌, ◌||◌}
use Rattle.std.proofs.lemmas.List.{append-nil, map-append, length-map}
use Rattle.std.proofs.lemmas.List.Elements.{filter-append}
use Rattle.dc_base.specs.declared.nodes.Cell.{Cell}
use Rattle.dc_base.specs.declared.nodes.Cell.TheVariants.{Mcg, Scg}
use Rattle.split_leg.specs.Legs.{LegState, LegsState, begun, leg_at, with_send}
use Rattle.split_leg.specs.Routes.{is_live}
use Rattle.node_rules.specs.declared.bearers.OnLeg.{OnLeg}
use Rattle.node_rules.specs.Setup.{is_same_cell}
use Rattle.run_legs.specs.Puts.{AreNumbered, HasGrown, HaveGrown, listed, over}

pub over_more : (cell : Cell) (xs ys : List OnLeg) → over cell (xs ++ ys) ≡ over cell xs ++ over cell ys
over_more cell xs ys = filter-append (λ (p : OnLeg). is_same_cell p.cell cell) xs ys

numbered_more : (num : ℕ) (xs ys : List OnLeg) → AreNumbered num xs → AreNumbered (num + length xs) ys → AreNumbered num (xs ++ ys)
numbered_more num [] ys here later = subst (λ k. AreNumbered k ys) (omega arith) later
numbered_more num (x ∷ xs) ys here later = (here.0, numbered_more (num + 1) xs ys here.1 (subst (λ k. AreNumbered k ys) (omega arith) later))

-- a leg
pub grown_again : (xs ys : List OnLeg) (a b c : LegState) → HasGrown xs a b → HasGrown ys b c → HasGrown (xs ++ ys) a c
grown_again xs ys a b c first then' =
    let count : length b.pdus ≡ length a.pdus + length xs =
    ap length first.pdus ∙ length-append a.pdus (map listed xs) ∙ ap (λ k. length a.pdus + k) (length-map xs listed) in
    record {
      pdus = then'.pdus ∙ ap (λ ps. ps ++ map listed ys) first.pdus ∙ append_assoc a.pdus (map listed xs) (map listed ys) ∙ ap (λ ps. a.pdus ++ ps) (sym (map-append listed xs ys));
      failed = then'.failed ∙ first.failed;
      numbered = numbered_more (length a.pdus) xs ys first.numbered (subst (λ k. AreNumbered k ys) count then'.numbered);
    }

-- a leg on which nothing was put
pub grown_none : (a : LegState) → HasGrown [] a a
grown_none a = record { pdus = sym (append-nil a.pdus); failed = refl; numbered = tt }

pub grown_begun : (a : LegState) → HasGrown [] a (begun a)
grown_begun a = record { pdus = sym (append-nil a.pdus); failed = refl; numbered = tt }

-- both legs
pub all_grown_again : (xs ys : List OnLeg) (a b c : LegsState) → HaveGrown xs a b → HaveGrown ys b c → HaveGrown (xs ++ ys) a c
all_grown_again xs ys a b c first then' = record {
  shape = then'.shape ∙ first.shape;
  threshold = then'.threshold ∙ first.threshold;
  policy = then'.policy ∙ first.policy;
  mcg = subst (λ ps. HasGrown ps a.mcg c.mcg) (sym (over_more Mcg xs ys)) (grown_again (over Mcg xs) (over Mcg ys) a.mcg b.mcg c.mcg first.mcg then'.mcg);
  scg = subst (λ ps. HasGrown ps a.scg c.scg) (sym (over_more Scg xs ys)) (grown_again (over Scg xs) (over Scg ys) a.scg b.scg c.scg first.scg then'.scg);
}

pub all_grown_none : (a : LegsState) → HaveGrown [] a a
all_grown_none a = record { shape = refl; threshold = refl; policy = refl; mcg = grown_none a.mcg; scg = grown_none a.scg }

-- a send begins
pub all_begun : (a : LegsState) → HaveGrown [] a (with_send a)
all_begun a = record { shape = refl; threshold = refl; policy = refl; mcg = grown_begun a.mcg; scg = grown_begun a.scg }

-- legs are as live as they were
pub live_as_before : (puts : List OnLeg) (a b : LegsState) (cell : Cell) → HaveGrown puts a b → is_live b cell ≡ is_live a cell
live_as_before puts a b Mcg grown = rw (grown.shape, grown.mcg.failed) refl
live_as_before puts a b Scg grown = rw (grown.shape, grown.scg.failed) refl
