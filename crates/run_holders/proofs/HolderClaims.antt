-- Where the lines of an event fit, an anchor that is frozen or that hands up is the holder's.
use Rattle.std.proofs.Common.{ℕ, ◌≡◌, ◌∙◌, Bool, true, false, List, [], ◌∷◌, Option, Some, None, refl, sym, ap, subst}
use Rattle.std.specs.Option.{option_map}
use Rattle.std.specs.Prelude.{if◌then◌else◌, is_some}
use Rattle.dc_base.specs.declared.events.Line.{Line}
use Rattle.dc_base.specs.declared.events.Line.TheVariants as line
use Rattle.dc_base.specs.declared.events.Note.TheVariants as note
use Rattle.dc_base.specs.declared.nodes.Dir.TheVariants.{Dl, Ul}
use Rattle.dc_base.specs.declared.nodes.Node.{Node}
use Rattle.claims.specs.Claim.{EachLine}
use Rattle.claims.specs.Holder.{is_by_holder, is_holder}
use Rattle.claims.specs.Names.{claim, holder}
use Rattle.claims.specs.Noted.{noted}
use Rattle.claims.specs.Past.{Bearer, Past}
use Rattle.claims.specs.Reading.{holds_any, latest}
use Rattle.run_words.specs.Parts.{at_lines}
use Rattle.run_holders.specs.Actives.{Actives, LineFits, LinesFit, line_actives}
use Rattle.run_holders.specs.Fitting.{AllSuit, HoldsAll}
use Rattle.run_holders.specs.Holders.{IsHolder}
use Rattle.run_holders.specs.Holdings.{Holding, holding_of, holdings}
use Rattle.run_holders.specs.Lines.{is_give_line, is_handing_line}
use Rattle.run_holders.proofs.HeldLines.{HoldsIn, line_holds, same_node}
use Rattle.run_holders.proofs.StillHeld.{latest_is}

-- ---- who holds, by the past

-- what the past says of establishments says who holds
pub holder_of : (p : Past) (k : ℕ) (x : Node) (g : ℕ) → HoldsIn (holdings p) k x g → IsHolder p k x g
holder_of p k x g (h, at, holds) = by (latest p k) refl (sym (latest_is k p.bearers) ∙ at)
  where
    or_else : Option Holding → Option (Node × ℕ)
    or_else None = h.holder
    or_else (Some z) = z.holder

    by : (o : Option Bearer) → latest p k ≡ o → option_map holding_of o ≡ Some h → IsHolder p k x g
    by None found is = absurd (let bad : None ≡ Some h = is in cc)
    by (Some b) found is = record { bearer = b; at = found; holds = ap or_else is ∙ holds }

-- the holder of an anchor that is active
active_holder : (p : Past) (x : Node) (a : Actives) (id : ℕ) → HoldsAll p x a → is_some (a id) ≡ true → is_holder x (latest p id) ≡ true
active_holder p x a id holds is = by (a id) refl is
  where
    by : (o : Option ℕ) → a id ≡ o → is_some o ≡ true → is_holder x (latest p id) ≡ true
    by None at none = absurd cc
    by (Some g) at some =
        let it = holder_of p id x g (holds id g at) in
        ap (λ (o : Option Bearer). is_holder x o) it.at ∙ ap (λ (h : Option (Node × ℕ)). holds_any x h) it.holds ∙ same_node x

-- ---- a line

give_claimed : (p : Past) (x : Node) (a : Actives) (l : Line) → LineFits x a l → HoldsAll p x a → is_give_line l ≡ true → is_by_holder p l ≡ true
give_claimed p x a (line.Note (note.Give y id g)) fit holds is = subst (λ z. is_holder z (latest p id) ≡ true) (sym fit.0) (active_holder p x a id holds fit.1)
give_claimed p x a (line.Note (note.Own y id g)) fit holds is = absurd cc
give_claimed p x a (line.Note (note.Up y id d count sdu)) fit holds is = absurd cc
give_claimed p x a (line.Note n) fit holds is = absurd cc
give_claimed p x a (line.Send l f) fit holds is = absurd cc
give_claimed p x a (line.Event e) fit holds is = absurd cc
give_claimed p x a (line.Answer r) fit holds is = absurd cc

handing_claimed : (p : Past) (x : Node) (a : Actives) (l : Line) → LineFits x a l → HoldsAll p x a → is_handing_line l ≡ true → is_by_holder p l ≡ true
handing_claimed p x a (line.Note (note.Up y id Ul count sdu)) fit holds is = subst (λ z. is_holder z (latest p id) ≡ true) (sym fit.0) (active_holder p x a id holds fit.1)
handing_claimed p x a (line.Note (note.Up y id Dl count sdu)) fit holds is = absurd cc
handing_claimed p x a (line.Note n) fit holds is = absurd cc
handing_claimed p x a (line.Send l f) fit holds is = absurd cc
handing_claimed p x a (line.Event e) fit holds is = absurd cc
handing_claimed p x a (line.Answer r) fit holds is = absurd cc

-- ---- the lines of an event

-- each `give` is the holder's
pub gives_claimed : (x : Node) (ls : List Line) (p : Past) (a : Actives) → LinesFit x a ls → AllSuit p a ls → HoldsAll p x a → EachLine (at_lines is_give_line (claim holder)).of_line p ls
gives_claimed x [] p a fit suit holds = tt
gives_claimed x (l ∷ ls) p a fit suit holds = (by (is_give_line l) refl, gives_claimed x ls (noted p l) (line_actives a l) fit.1 suit.1 (line_holds p x a l fit.0 suit.0 holds))
  where
    by : (b : Bool) → is_give_line l ≡ b → (if b then is_by_holder p l else true) ≡ true
    by true is = give_claimed p x a l fit.0 holds is
    by false is = refl

-- and each `up` of an uplink payload
pub handings_claimed : (x : Node) (ls : List Line) (p : Past) (a : Actives) → LinesFit x a ls → AllSuit p a ls → HoldsAll p x a → EachLine (at_lines is_handing_line (claim holder)).of_line p ls
handings_claimed x [] p a fit suit holds = tt
handings_claimed x (l ∷ ls) p a fit suit holds = (by (is_handing_line l) refl, handings_claimed x ls (noted p l) (line_actives a l) fit.1 suit.1 (line_holds p x a l fit.0 suit.0 holds))
  where
    by : (b : Bool) → is_handing_line l ≡ b → (if b then is_by_holder p l else true) ≡ true
    by true is = handing_claimed p x a l fit.0 holds is
    by false is = refl
