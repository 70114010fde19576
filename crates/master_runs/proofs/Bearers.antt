-- The master's half of a bearer, put in its place.
use Rattle.std.proofs.Common.{ℕ, ◌≡◌, ◌<◌, ◌==◌, Bool, false, List, Option, Some, None, length, refl, sym, ap, subst, ◌∙◌, inl, inr}
use Rattle.std.specs.Prelude.{find}
use Rattle.std.proofs.lemmas.Bool.{cases_Bool, eqb-true}
use Rattle.std.proofs.lemmas.List.{set-get_or}
use Rattle.dc_base.specs.declared.events.Header.{Header}
use Rattle.dc_base.specs.declared.nodes.Node.TheVariants.{M}
use Rattle.nr_u.specs.Tunnel.Outgoing.{Outgoing}
use Rattle.pdcp_rx.specs.declared.entity.RxParts.{RxParts}
use Rattle.pdcp_tx.specs.Sender.{Sender}
use Rattle.transcript.specs.Bearers.{Established, OpenCommand}
use Rattle.master_runs.specs.Control.{Nodes}
use Rattle.master_runs.specs.Entities.{Entities, Table, bearer_in, with_bearer}
use Rattle.master_runs.specs.Plane.{Outcome}
use Rattle.master_runs.proofs.Tables.{bearer_in-same, bearer_in-other}
use Rattle.node_rules.specs.Anchor.{Active, AnchorState, active_anchor}
use Rattle.node_rules.specs.Held.{held, holding}
use Rattle.node_rules.specs.Master.{MasterNode}
use Rattle.node_rules.specs.declared.bearers.Window.{Window}
use Rattle.node_rules.specs.declared.commands.Command.{Command}
use Rattle.node_rules.specs.declared.commands.Row.{Row}
use Rattle.node_rules.specs.declared.inputs.Outcome.{Outcome as WholeOutcome}
use Rattle.master_runs.specs.Forms.{Leg, entity_as}
use Rattle.master_runs.specs.Same.{Inside, IsBearer, SameBearer, no_bearer, a_bearer, SameMaster, MasterDid}
use Rattle.master_runs.proofs.Holding.{held-same, held-other}

-- the anchor of a bearer at the master
abbrev pub active_as : Header → Established → Leg → Sender → RxParts → Bool → Outgoing → Active
active_as h b x tx rx opened tunnel = record { entity = entity_as h M b x tx rx; is_open = opened; tunnel = tunnel }

-- what is the same as what the master did
pub did_there : (h : Header) {was was' : MasterNode × WholeOutcome} {done done' : Nodes × Outcome} → was ≡ was' → done ≡ done' → MasterDid h was' done' → MasterDid h was done
did_there h {was} {was'} {done} {done'} p q did = subst (λ x. MasterDid h x done) (sym p) (subst (MasterDid h was') (sym q) did)

-- a table with what it has
pub put_back : (table : Table) (id : ℕ) (e : Entities) → bearer_in table id ≡ Some e → with_bearer table id (Some e) ≡ table
put_back table id e at = ap (with_bearer table id) (sym at) ∙ set-get_or table id None

module _ (h : Header) (drawn : ℕ) (busy : Option OpenCommand) (command : Option Command) where
  -- what both have, by other names
  pub same_bearer_by : (id : ℕ) {o o' : Option Entities} {r r' : Option Row} {a a' : Option AnchorState} {w w' : Option Window} → o ≡ o' → r ≡ r' → a ≡ a' → w ≡ w'
      → SameBearer h drawn busy command id o' r' a' w' → SameBearer h drawn busy command id o r a w
  same_bearer_by id {o} {o'} {r} {r'} {a} {a'} {w} {w'} p q u v is =
      subst (λ o. SameBearer h drawn busy command id o r a w) (sym p)
      (subst (λ r. SameBearer h drawn busy command id o' r a w) (sym q)
      (subst (λ a. SameBearer h drawn busy command id o' r' a w) (sym u)
      (subst (λ w. SameBearer h drawn busy command id o' r' a' w) (sym v) is)))

-- what is so of every bearer under another command is so of what there is
pub bearer_map : (h : Header) (drawn : ℕ) (busy : Option OpenCommand) (command : Option Command) (drawn' : ℕ) (busy' : Option OpenCommand) (command' : Option Command) (id : ℕ)
    → ((e : Entities) (x : Leg) (r : Row) (opened : Bool) (w : Window) → IsBearer drawn busy command id e x r opened w → IsBearer drawn' busy' command' id e x r opened w)
    → {o : Option Entities} {r : Option Row} {a : Option AnchorState} {w : Option Window} → SameBearer h drawn busy command id o r a w → SameBearer h drawn' busy' command' id o r a w
bearer_map h drawn busy command drawn' busy' command' id so no_bearer = no_bearer
bearer_map h drawn busy command drawn' busy' command' id so (a_bearer e x r opened tunnel w is) = a_bearer e x r opened tunnel w (so e x r opened w is)

-- both masters have another half of an identity from now on
pub bearers_with : (h : Header) (s : Nodes) (y : Inside) → SameMaster h s y → (id : ℕ) → id < length s.master
    → (e : Entities) (x : Leg) (r : Row) (opened : Bool) (tunnel : Outgoing) (w : Window) (windows : List (ℕ × Window))
    → find (λ r. r.id == id) y.rows ≡ Some r → held id windows ≡ Some w → ((k : ℕ) → (id == k) ≡ false → held k windows ≡ held k y.windows)
    → IsBearer s.drawn s.busy y.command id e x r opened w
    → SameMaster h (record s { master = with_bearer s.master id (Some e) })
    (record y { anchors = holding id (Some (active_anchor (active_as h e.bearer x e.tx e.rx opened tunnel))) y.anchors; windows = windows })
bearers_with h s y same id small e x r opened tunnel w windows row here elsewhere is =
    let a = active_anchor (active_as h e.bearer x e.tx e.rx opened tunnel) in
    let anchors = holding id (Some a) y.anchors in
    let table = with_bearer s.master id (Some e) in
    let P : ℕ → Type 0 = λ k. SameBearer h s.drawn s.busy y.command k (bearer_in table k) (find (λ r. r.id == k) y.rows) (held k anchors) (held k windows) in
    record {
      bearers = λ k. elim (cases_Bool (id == k)) [
        | inl it ↦ subst P (eqb-true id k it)
            (same_bearer_by h s.drawn s.busy y.command id (bearer_in-same s.master id (Some e) small) row (held-same id a y.anchors) here (a_bearer e x r opened tunnel w is))
        | inr apart ↦ same_bearer_by h s.drawn s.busy y.command k (bearer_in-other s.master id k (Some e) apart) refl (held-other id k a y.anchors apart) (elsewhere k apart) (same.bearers k)
      ];
      command = same.command;
      unclaimed = λ k none. elim (cases_Bool (id == k)) [
        | inl it ↦ absurd (let is : bearer_in table k ≡ Some e = subst (λ j. bearer_in table j ≡ Some e) (eqb-true id k it) (bearer_in-same s.master id (Some e) small) in cc)
        | inr apart ↦ same.unclaimed k (sym (bearer_in-other s.master id k (Some e) apart) ∙ none)
      ];
    }
