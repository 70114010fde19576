-- What an anchor sends, where its entity has given COUNTs to the first of the submissions: the PDUs of submissions, from the anchor of
-- their plan.
use Rattle.std.proofs.Common.{ℕ, ◌++◌, ◌∙◌, Bool, List, Option, slice_get, sym, ap, subst}
use Rattle.std.specs.List.{AllByRecursion}
use Rattle.std.specs.Prelude.{if◌then◌else◌, None, ◌-◌}
use Rattle.std.proofs.lemmas.Bool.{le-leb}
use Rattle.pdcp_pdu.specs.DataPdu.{IsPayload}
use Rattle.pdcp_tx.specs.Sender.{Entry, Sender}
use Rattle.transcript.proofs.OnEach.{each_at, each_weaker}
use Rattle.node_rules.specs.Anchor.{Active, AnchorState, active_anchor, setup_at}
use Rattle.node_rules.specs.declared.bearers.AnchorOut.{AnchorOut}
use Rattle.run_receivers.specs.Submitted.{IsSubmission}
use Rattle.run_uplinks.specs.Readings.{Face, Reading}
use Rattle.run_words.specs.Senders.{AreBy}
use Rattle.run_ordered.specs.Anchors.{AnchorServes}
use Rattle.run_ordered.specs.Fronts.{ArePayloads, HasFront}
use Rattle.run_ordered.specs.Scenes.{HasOrTakes}
use Rattle.run_ordered.specs.Scenes.HasOrTakes.{has, takes}
use Rattle.run_downlinks.specs.Canonical.{IsCanonical, KeptAt}
use Rattle.run_downlinks.specs.Downlinks.{IsDownSend}
use Rattle.run_downlinks.specs.Keyed.{IsKeyedBy, IsSubmittedTo, submitted_to}
use Rattle.run_downlinks.proofs.Owned.{sends_owned}

-- a submission of an establishment
one_submitted : (f : Face) → ArePayloads (submitted_to f) → (e : Entry) → IsSubmission (submitted_to f) e → IsSubmittedTo f e
one_submitted f all e is = record {
  is = ap (λ b. if b then slice_get f.submitted (e.0 - f.first) else None) (le-leb f.first e.0 is.from) ∙ is.payload;
  most = (each_at IsPayload f.submitted (e.0 - f.first) e.1 all is.payload).most;
}

pub front_kept : (f : Face) (rest : List (List ℕ)) (a : Active) → ArePayloads (submitted_to f) → HasFront (submitted_to f) rest a → KeptAt (IsSubmittedTo f) (active_anchor a)
front_kept f rest a all front = each_weaker (IsSubmission (submitted_to f)) (IsSubmittedTo f) (one_submitted f all) a.entity.tx.kept front.front.kept

module _ (Passes : ℕ → ℕ → Option ℕ → List ℕ → Type 0) (r : Reading) where
  -- of a step after which this is kept
  kept_owned : (s : AnchorState) (done : AnchorState × AnchorOut) (keyed : IsKeyedBy r (setup_at s)) → IsCanonical s done → KeptAt (IsSubmittedTo keyed.face) done.0 → AreBy (setup_at s).node done.1.sends
      → AllByRecursion (IsDownSend Passes r) done.1.sends
  kept_owned s done keyed canonical kept by = sends_owned r (setup_at s) keyed Passes done.1.sends by (canonical.sends (IsSubmittedTo keyed.face) kept)

  -- an active anchor that took these submissions in the step, or none
  pub served_owned : (a : Active) (taken rest : List (List ℕ)) (done : AnchorState × AnchorOut) (keyed : IsKeyedBy r a.entity.setup) → IsCanonical (active_anchor a) done → AnchorServes a taken done
      → ArePayloads (submitted_to keyed.face) → HasFront (submitted_to keyed.face) (taken ++ rest) a → AreBy a.entity.setup.node done.1.sends → AllByRecursion (IsDownSend Passes r) done.1.sends
  served_owned a taken rest done keyed canonical serves all front by =
      kept_owned (active_anchor a) done keyed canonical
      (subst (KeptAt (IsSubmittedTo keyed.face)) (sym serves.is) (front_kept keyed.face rest serves.after all (serves.front (submitted_to keyed.face) rest front))) by

  -- a waiting one that took the entity over in the step, or waits on
  pub taken_owned : (s : AnchorState) (done : AnchorState × AnchorOut) (keyed : IsKeyedBy r (setup_at s)) → IsCanonical s done → ArePayloads (submitted_to keyed.face)
      → (g : ℕ) (fresh old rest : List (List ℕ)) (tx : Sender) (closed : Bool) → HasOrTakes (submitted_to keyed.face) g fresh old rest tx closed done.0 → AreBy (setup_at s).node done.1.sends → AllByRecursion (IsDownSend Passes r) done.1.sends
  taken_owned s done keyed canonical all g fresh old rest tx closed is by = kept_owned s done keyed canonical (kept done.0 is) by
    where
      kept : (t : AnchorState) → HasOrTakes (submitted_to keyed.face) g fresh old rest tx closed t → KeptAt (IsSubmittedTo keyed.face) t
      kept t (takes w same_g same taking moving) = tt
      kept t (has a shut front rises) = front_kept keyed.face rest a all front
