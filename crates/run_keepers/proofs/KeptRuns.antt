-- Several lines of a node leave each node with an active anchor of what it holds by the past; so does the step by which they come.
use Rattle.std.proofs.Common.{ℕ, ◌≡◌, false, List, [], ◌∷◌, Some, None, refl, sym, subst, inl, inr}
use Rattle.std.specs.Prelude.{fold, ◌⊎◌}
use Rattle.dc_base.specs.Nodes.{is_same_node}
use Rattle.dc_base.specs.declared.events.Line.{Line}
use Rattle.dc_base.specs.declared.events.Line.TheVariants as line
use Rattle.dc_base.specs.declared.events.Note.TheVariants as note
use Rattle.dc_base.specs.declared.flights.Flight.{Flight}
use Rattle.dc_base.specs.declared.flights.Flight.TheVariants as flight
use Rattle.dc_base.specs.declared.nodes.LinkId.{LinkId}
use Rattle.dc_base.specs.declared.nodes.Node.{Node}
use Rattle.dc_base.specs.declared.records.Rec.TheVariants as rec
use Rattle.claims.specs.Noted.{noted}
use Rattle.claims.specs.Past.{Past}
use Rattle.run_holders.specs.Actives.{Actives, LineFits, LinesFit, line_actives, with_active}
use Rattle.run_holders.specs.Fitting.{AllSuit, Suits}
use Rattle.run_holders.specs.Holdings.{holder_in, holdings}
use Rattle.run_keepers.specs.Kept.{AllOwnLatest, KeepsAll, OwnsLatest}
use Rattle.run_keepers.specs.Lasting.{Lasts}
use Rattle.run_keepers.proofs.KeptLines.{give_keeps, give_keeps_other, order_keeps, own_keeps, own_keeps_other, same_keeps}

-- ---- a line

send_keeps : (p : Past) (x : Node) (a : Actives) (l : LinkId) (f : Flight) → KeepsAll p x a → KeepsAll (noted p (line.Send l f)) x a
send_keeps p x a l (flight.Ctl (rec.Reconf q key)) keeps = order_keeps p x a l q key keeps
send_keeps p x a l f keeps = same_keeps p x a (line.Send l f) refl keeps

-- of the node itself
line_keeps : (p : Past) (x : Node) (a : Actives) (l : Line) → LineFits x a l → OwnsLatest p l → KeepsAll p x a → KeepsAll (noted p l) x (line_actives a l)
line_keeps p x a (line.Note (note.Own y id g)) fit is keeps = subst (λ z. KeepsAll (noted p (line.Note (note.Own z id g))) x (with_active id (Some g) a)) (sym fit) (own_keeps p x id g a is keeps)
line_keeps p x a (line.Note (note.Give y id g)) fit is keeps = subst (λ z. KeepsAll (noted p (line.Note (note.Give z id g))) x (with_active id None a)) (sym fit.0) (give_keeps p x id g a keeps)
line_keeps p x a (line.Send l f) fit is keeps = send_keeps p x a l f keeps
line_keeps p x a l fit is keeps = same_keeps p x a l refl keeps

-- of another node
line_keeps_other : (p : Past) (x y : Node) (a b : Actives) (l : Line) → is_same_node x y ≡ false → LineFits x a l → OwnsLatest p l → KeepsAll p y b → KeepsAll (noted p l) y b
line_keeps_other p x y a b (line.Note (note.Own z id g)) other fit is keeps = subst (λ k. KeepsAll (noted p (line.Note (note.Own k id g))) y b) (sym fit) (own_keeps_other p x y id g b other is keeps)
line_keeps_other p x y a b (line.Note (note.Give z id g)) other fit is keeps = give_keeps_other p z y id g b keeps
line_keeps_other p x y a b (line.Send l f) other fit is keeps = send_keeps p y b l f keeps
line_keeps_other p x y a b l other fit is keeps = same_keeps p y b l refl keeps

-- ---- several

pub lines_keep : (x : Node) (ls : List Line) (p : Past) (a : Actives) → LinesFit x a ls → AllOwnLatest p ls → KeepsAll p x a → KeepsAll (fold noted p ls) x (fold line_actives a ls)
lines_keep x [] p a fit own keeps = keeps
lines_keep x (l ∷ ls) p a fit own keeps = lines_keep x ls (noted p l) (line_actives a l) fit.1 own.1 (line_keeps p x a l fit.0 own.0 keeps)

pub lines_keep_other : (x y : Node) (ls : List Line) (p : Past) (a b : Actives) → is_same_node x y ≡ false → LinesFit x a ls → AllOwnLatest p ls → KeepsAll p y b → KeepsAll (fold noted p ls) y b
lines_keep_other x y [] p a b other fit own keeps = keeps
lines_keep_other x y (l ∷ ls) p a b other fit own keeps =
    lines_keep_other x y ls (noted p l) (line_actives a l) b other fit.1 own.1 (line_keeps_other p x y a b l other fit.0 own.0 keeps)

-- lines that suit the past are such
suits_own : (p : Past) (a : Actives) (l : Line) → Suits p a l → OwnsLatest p l
suits_own p a (line.Note (note.Own x id g)) is = is
suits_own p a l is = tt

pub all_suit_own : (ls : List Line) (p : Past) (a : Actives) → AllSuit p a ls → AllOwnLatest p ls
all_suit_own [] p a is = tt
all_suit_own (l ∷ ls) p a is = (suits_own p a l is.0, all_suit_own ls (noted p l) (line_actives a l) is.1)

-- ---- a step

-- where what is active by the notes lasts, but for bearers of which the node is not the holder after the lines, it keeps what it holds
pub lasting_keeps : (D : ℕ → Type 0) (q : Past) (x : Node) (f b : Actives) → Lasts D f b → ((k g : ℕ) → D k → holder_in k (holdings q) ≡ Some (x, g) → ⊥) → KeepsAll q x f → KeepsAll q x b
lasting_keeps D q x f b lasts gone keeps k g at = by (lasts k g (keeps k g at))
  where
    by : (b k ≡ Some g) ⊎ D k → b k ≡ Some g
    by (inl is) = is
    by (inr d) = absurd (gone k g d at)
