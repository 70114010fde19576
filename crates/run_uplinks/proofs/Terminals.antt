-- The terminal's side stays what the past says of it, at each of its events, and at each flight but a plan.
use Rattle.std.proofs.Common.{ℕ, ◌≡◌, ◌+◌, ◌-◌, ◌==◌, ◌++◌, ◌^◌, false, List, [], ◌∷◌, Option, Some, None, refl, sym, subst, ◌∙◌, inl, inr}
use Rattle.std.specs.Prelude.{fold, nat_le}
use Rattle.std.proofs.lemmas.Bool.{cases_Bool}
use Rattle.dc_base.specs.Count.{window}
use Rattle.dc_base.specs.declared.answers.Answer.{Answer}
use Rattle.dc_base.specs.declared.answers.Answer.TheVariants as answer
use Rattle.dc_base.specs.declared.events.Note.{Note}
use Rattle.dc_base.specs.declared.flights.Flight.{Flight}
use Rattle.dc_base.specs.declared.nodes.Dir.TheVariants.{Dl}
use Rattle.dc_base.specs.declared.nodes.Node.{Node}
use Rattle.dc_base.specs.declared.nodes.Node.TheVariants.{T}
use Rattle.pdcp_tx.specs.Sender.{counts, low}
use Rattle.pdcp_rx.specs.Entries.{counts_of}
use Rattle.pdcp_pdu.specs.StatusReport.{report_pdu}
use Rattle.std.specs.List.{filter_map}
use Rattle.node_rules.specs.Choices.{Choices}
use Rattle.node_rules.specs.Flights.{Named}
use Rattle.node_rules.specs.Held.{held}
use Rattle.node_rules.specs.Master.{handed_up}
use Rattle.node_rules.specs.Sending.{pdu_at, send_counts, send_kept, send_report}
use Rattle.node_rules.specs.Terminal.{TerminalNode, air_taken, air_taken_by, half_did, recovered_half, reported_there, submitted_there, uplink_freed, with_half}
use Rattle.node_rules.specs.TerminalHalf.{TerminalHalf, terminal_air_in}
use Rattle.node_rules.specs.declared.bearers.HalfOut.{HalfOut}
use Rattle.node_rules.specs.declared.inputs.Outcome.{Outcome}
use Rattle.run_uplinks.specs.Seen.{Seen, Uplink, freed_to, latest, one_more, with_note}
use Rattle.run_uplinks.specs.Uplinks.{plane, Fits, IsHalf, IsUp, absent, present}
use Rattle.run_uplinks.proofs.Changing.{KeepsFace, half_changed, half_kept, with_latest}
use Rattle.run_uplinks.proofs.Establishments.{some_is}
use Rattle.run_uplinks.proofs.Halves.{air_half, half_sender, half_sends}
use Rattle.run_uplinks.proofs.Senders.{freed_if, sender_more}

-- the notes of a step, folded
abbrev pub after_notes : Seen → List Note → Seen
after_notes s ns = fold with_note s ns

module _ (c : Choices) (s : Seen) (t : TerminalNode) (is : IsUp s t) where
  -- what the terminal holds is that of the latest establishment
  pub present_at : (id : ℕ) (h : TerminalHalf) → held id t.halves ≡ Some h → (u : Uplink) × (latest id s.bearers ≡ Some u) × IsHalf (plane s) u h
  present_at id h at = by (is.each id)
    where
      by : Fits s t id → (u : Uplink) × (latest id s.bearers ≡ Some u) × IsHalf (plane s) u h
      by (absent none out) = absurd (let bad : None ≡ Some h = sym none ∙ at in cc)
      by (present x there u u_at half) = (u, u_at, subst (λ (y : TerminalHalf). IsHalf (plane s) u y) (some_is x h (sym there ∙ at)) half)

  -- ---- a submission

  -- what is seen once it was answered
  abbrev pub seen_after : ℕ → List ℕ → Answer → Seen
  seen_after id payload answer.Ok = with_latest id (one_more payload) s
  seen_after id payload (answer.No why) = s

  abbrev pub IsUpAfter : ℕ → List ℕ → TerminalNode × Outcome → Type 0
  IsUpAfter id payload done = IsUp (seen_after id payload done.1.answer) done.0

  more_keeps : (payload : List ℕ) → KeepsFace (one_more payload)
  more_keeps payload = record { g = λ u. refl; id = λ u. refl; n = λ u. refl; first = λ u. refl }

  -- the half with one more SDU, before it is sent
  abbrev pub taking : TerminalHalf → List ℕ → TerminalHalf
  taking h payload = record h { tx = record h.tx { next = h.tx.next + 1; kept = h.tx.kept ++ (h.tx.next, payload) ∷ [] } }

  pub accepted_up : (id : ℕ) (payload : List ℕ) (h : TerminalHalf) (u : Uplink) → latest id s.bearers ≡ Some u → IsHalf (plane s) u h → nat_le (low h.tx + window h.tx.n) h.tx.next ≡ false
      → IsUp (with_latest id (one_more payload) s) (with_half t id (Some (send_counts c (taking h payload) (h.tx.next ∷ [])).0))
  accepted_up id payload h u at half room =
      let x = taking h payload in
      let with_tx = half_sender (plane s) u (one_more payload u) h x.tx half refl refl refl refl refl refl (sender_more u h.tx payload half.sender room) in
      half_changed s t is id (one_more payload) u (send_counts c x (h.tx.next ∷ [])).0 (more_keeps payload) at
      (half_sends c (plane s) (one_more payload u) x (filter_map (pdu_at x) (h.tx.next ∷ [])) with_tx)

  pub submitted_up : (id : ℕ) (payload : List ℕ) (o : Option TerminalHalf) → held id t.halves ≡ o → IsUpAfter id payload (submitted_there c t id payload o)
  submitted_up id payload None at = is
  submitted_up id payload (Some h) at =
      let x = present_at id h at in
      elim (cases_Bool (nat_le (low h.tx + window h.tx.n) h.tx.next)) [
        | inl full ↦ rw full (half_kept s t is id x.0 h x.1 x.2)
        | inr room ↦ elim (cases_Bool (h.tx.next == 2 ^ 32 - 1)) [
          | inl spent ↦ rw (room, spent) (half_kept s t is id x.0 h x.1 x.2)
          | inr left ↦ rw (room, left) (accepted_up id payload h x.0 x.1 x.2 room)
        ]
      ]

  -- ---- a report, and a recovery

  pub reported_up : (id : ℕ) (o : Option TerminalHalf) → held id t.halves ≡ o → IsUp s (reported_there c t id o).0
  reported_up id None at = is
  reported_up id (Some h) at =
      let x = present_at id h at in
      half_kept s t is id x.0 (send_report c h).0 x.1 (half_sends c (plane s) x.0 h ((None, report_pdu h.rx.deliv (counts_of h.rx.stored)) ∷ []) x.2)

  pub recovered_up : (id : ℕ) (o : Option TerminalHalf) → held id t.halves ≡ o → IsUp (after_notes s (recovered_half c t id o).1.notes) (recovered_half c t id o).0
  recovered_up id None at = is
  recovered_up id (Some h) at =
      let x = present_at id h at in
      half_kept s t is id x.0 (send_kept c h).0 x.1 (half_sends c (plane s) x.0 h (filter_map (pdu_at h) (counts h.tx.kept)) x.2)

  -- ---- a flight over the air

  ups_seen : (id : ℕ) (ups : List (ℕ × List ℕ)) (ns : List Note) → after_notes s (handed_up T id Dl ups ++ ns) ≡ after_notes s ns
  ups_seen id [] ns = refl
  ups_seen id (x ∷ ups) ns = ups_seen id ups ns

  freed_keeps : (count : ℕ) → KeepsFace (freed_to count)
  freed_keeps count = record { g = λ u. refl; id = λ u. refl; n = λ u. refl; first = λ u. refl }

  half_did_up : (id : ℕ) (u : Uplink) (done : TerminalHalf × HalfOut) → latest id s.bearers ≡ Some u → IsHalf (plane s) (freed_if done.1.low u) done.0
      → IsUp (after_notes s (half_did t id done).1.notes) (half_did t id done).0
  half_did_up id u done at half =
      subst (λ z. IsUp z (with_half t id (Some done.0))) (sym (ups_seen id done.1.ups (uplink_freed id done.1.low))) (by done.1.low half)
    where
      by : (o : Option ℕ) → IsHalf (plane s) (freed_if o u) done.0 → IsUp (after_notes s (uplink_freed id o)) (with_half t id (Some done.0))
      by None half' = half_kept s t is id u done.0 at half'
      by (Some count) half' = half_changed s t is id (freed_to count) u done.0 (freed_keeps count) at half'

  air_by_up : (from : Node) (f : Flight) (id : ℕ) (o : Option TerminalHalf) → held id t.halves ≡ o → IsUp (after_notes s (air_taken_by t from f id o).1.notes) (air_taken_by t from f id o).0
  air_by_up from f id None at = is
  air_by_up from f id (Some h) at =
      let x = present_at id h at in half_did_up id x.0 (terminal_air_in h from f) x.1 (air_half (plane s) x.0 h from f x.2)

  pub air_up : (from : Node) (f : Flight) (o : Option Named) → IsUp (after_notes s (air_taken t from f o).1.notes) (air_taken t from f o).0
  air_up from f None = is
  air_up from f (Some (id, g)) = air_by_up from f id (held id t.halves) refl
