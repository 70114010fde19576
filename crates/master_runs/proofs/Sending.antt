-- A payload that a node is to send, or a report: it is sent, or refused.
use Rattle.std.proofs.Common.{ℕ, ◌≡◌, ◌+◌, ◌-◌, ◌^◌, ◌==◌, ◌++◌, List, [], ◌∷◌, Option, Some, None, true, false, length, refl, sym, ap, ◌∙◌, subst, inl, inr}
use Rattle.std.specs.Prelude.{if◌then◌else◌, nat_le, is_some, Ok, Err, Result}
use Rattle.std.specs.Option.{option_map}
use Rattle.std.proofs.lemmas.List.{set-get_or}
use Rattle.std.proofs.lemmas.Bool.{cases_Bool, cond-true, cond-false}
use Rattle.dc_base.specs.Count.{window}
use Rattle.dc_base.specs.declared.nodes.Dir.{Dir}
use Rattle.dc_base.specs.declared.nodes.Dir.TheVariants.{Ul, Dl}
use Rattle.dc_base.specs.declared.nodes.Node.{Node}
use Rattle.dc_base.specs.declared.nodes.Node.TheVariants.{T, M, A, B}
use Rattle.dc_base.specs.declared.answers.Answer.TheVariants as answer
use Rattle.dc_base.specs.declared.answers.Answer.TheVariants.{No}
use Rattle.dc_base.specs.declared.answers.Refusal.{Refusal}
use Rattle.dc_base.specs.declared.answers.Refusal.TheVariants.{NoBearer, Full, Exhausted}
use Rattle.dc_base.specs.declared.events.Header.{Header}
use Rattle.dc_base.specs.declared.events.Event.TheVariants.{Report, Submit}
use Rattle.pdcp_pdu.specs.DataPdu.{IsPayload}
use Rattle.pdcp_tx.specs.Sender.{Sender, low}
use Rattle.pdcp_tx.specs.Sending.{take_sdu as taken}
use Rattle.pdcp_tx.specs.declared.tx.TxErr.{TxErr}
use Rattle.pdcp_tx.specs.declared.tx.TxErr.TheVariants as refused
use Rattle.transcript.specs.Transcript.{Entry}
use Rattle.transcript.specs.Content.{place_taken}
use Rattle.transcript.specs.Bearers.{Established, at_node, submitter, at_submitter, submitted, told}
use Rattle.transcript.specs.Claims.{submit_answer}
use Rattle.master_runs.specs.Entities.{Entities, Table, bearer_in, with_bearer}
use Rattle.master_runs.specs.Plane.{Outcome, reports, numbered_as, submitted as submitted_in}
use Rattle.master_runs.specs.Control.{Nodes}
use Rattle.master_runs.specs.Run.{WorldState, reported_by, report_of}
use Rattle.master_runs.proofs.Sound.{or_fresh, half, sender_table, Sound}
use Rattle.master_runs.proofs.Tables.{with_sender, is_established, same_nodes}
use Rattle.master_runs.proofs.Assembly.{served_told}
use Rattle.master_runs.proofs.Refusing.{refused_happened}
use Rattle.master_runs.proofs.Reporting.{reports_happened}
use Rattle.master_runs.proofs.Submitting.{submitted_happened}
use Rattle.master_runs.proofs.Deciding.{Next, next, serving, serving_is, serving_in}

-- a submission is taken, or refused for a full window or for want of a COUNT
taken_cases : (Q : Result (Sender × ℕ) TxErr → Type 0) (tx : Sender) (p : List ℕ)
    → (nat_le (low tx + window tx.n) tx.next ≡ true → Q (Err (refused.Full (low tx) tx.next)))
    → (nat_le (low tx + window tx.n) tx.next ≡ false → (tx.next == 2 ^ 32 - 1) ≡ true → Q (Err refused.Exhausted))
    → ((sender : Sender) (c : ℕ) → taken tx p ≡ Ok (sender, c) → Q (Ok (sender, c)))
    → Q (taken tx p)
taken_cases Q tx p full exhausted room =
    elim (cases_Bool (nat_le (low tx + window tx.n) tx.next)) [
      | inl yes' ↦ rw yes' (full yes')
      | inr no' ↦ elim (cases_Bool (tx.next == 2 ^ 32 - 1)) [
        | inl last ↦ rw (no', last) (exhausted no' last)
        | inr left ↦
            let is : taken tx p ≡ Ok (record tx { next = tx.next + 1; kept = tx.kept ++ (tx.next, p) ∷ [] }, tx.next) = rw (no', left) refl in
            subst Q (sym is) (room (record tx { next = tx.next + 1; kept = tx.kept ++ (tx.next, p) ∷ [] }) tx.next is)
      ]
    ]

module _ (h : Header) (policies : ℕ) (t : List Entry) (w : WorldState) (sound : Sound h policies t w) where
  -- a submission that is refused
  refuse_submission : (id : ℕ) (d : Dir) (payload : List ℕ) (why : Refusal) → place_taken (Submit id d payload) (No why) ≡ None
      → No why ≡ submit_answer d t (at_submitter d id t) → Next h policies t w (Submit id d payload) (w.nodes, (No why, []))
  refuse_submission id d payload why none due =
      next h policies t w sound (Submit id d payload) (w.nodes, (No why, []))
      (refused_happened h policies t w sound (Submit id d payload) why (λ g. refl) refl (λ g o. refl) (λ b d c. refl) refl none due)

  module _ (id : ℕ) (d : Dir) (payload : List ℕ) (good : IsPayload payload) where
    -- the nodes with the table that is decided on, and the outcome
    abbrev decision : Table × Outcome → Nodes × Outcome
    decision q = (with_sender d w.nodes q.0, q.1)

    -- the table is as it was where the bearer in it is
    put_back : (e : Entities) → bearer_in (sender_table d w.nodes) id ≡ Some e → with_sender d w.nodes (with_bearer (sender_table d w.nodes) id (Some e)) ≡ w.nodes
    put_back e at =
        ap (with_sender d w.nodes) (ap (with_bearer (sender_table d w.nodes) id) (sym at) ∙ set-get_or (sender_table d w.nodes) id None) ∙ same_nodes d w.nodes

    -- a submission to a bearer
    submit_to : (e : Entities) → serving w d id ≡ Some e → Next h policies t w (Submit id d payload) (decision (submitted_in h d (sender_table d w.nodes) id payload (Some e)))
    submit_to e is =
        let at = serving_in h policies t w sound d id e is in
        let there : at_submitter d id t ≡ Some e.bearer = serving_is h policies t w sound d id ∙ ap (option_map (λ (x : Entities). x.bearer)) is in
        let known = is_established t w.nodes sound.tables d id e at in
        let b = e.bearer in
        let served = sound.served b d known.0 in
        let mine : half b (sender_table d w.nodes) ≡ e = ap (λ k. or_fresh b (bearer_in (sender_table d w.nodes) k)) known.1 ∙ ap (or_fresh b) at in
        let begins : told b d t ≡ low e.tx = served_told t w.nodes w.links b d served ∙ ap (λ (x : Entities). low x.tx) mine in
        let counted : b.first + length (submitted b d t) ≡ e.tx.next = sym served.lane.counted ∙ ap (λ (x : Entities). x.tx.next) mine in
        let n : b.n ≡ e.tx.n = sym served.lane.tx_length ∙ ap (λ (x : Entities). x.tx.n) mine in
        let due : submit_answer d t (at_submitter d id t) ≡ (if nat_le (low e.tx + window e.tx.n) e.tx.next then No Full else if e.tx.next == 2 ^ 32 - 1 then No Exhausted else answer.Ok) =
        ap (submit_answer d t) there
        ∙ ap (λ m. if nat_le (m + window b.n) (b.first + length (submitted b d t)) then No Full else if (b.first + length (submitted b d t)) == 2 ^ 32 - 1 then No Exhausted else answer.Ok) begins
        ∙ ap (λ k. if nat_le (low e.tx + window b.n) k then No Full else if k == 2 ^ 32 - 1 then No Exhausted else answer.Ok) counted
        ∙ ap (λ k. if nat_le (low e.tx + window k) e.tx.next then No Full else if e.tx.next == 2 ^ 32 - 1 then No Exhausted else answer.Ok) n in
        let Q : Nodes × Outcome → Type 0 = Next h policies t w (Submit id d payload) in
        let back = put_back e at in
        taken_cases (λ r. Q (let done = numbered_as h d e payload r in decision (with_bearer (sender_table d w.nodes) id (Some done.0), done.1))) e.tx payload
        (λ full. subst (λ s. Q (s, (No Full, []))) (sym back) (refuse_submission id d payload Full refl (sym (due ∙ cond-true _ _ _ full))))
        (λ room last. subst (λ s. Q (s, (No Exhausted, []))) (sym back) (refuse_submission id d payload Exhausted refl (sym (due ∙ cond-false _ _ _ room ∙ cond-true _ _ _ last))))
        (λ tx c ok. next h policies t w sound (Submit id d payload) (decision (let done = numbered_as h d e payload (Ok (tx, c)) in (with_bearer (sender_table d w.nodes) id (Some done.0), done.1)))
        (submitted_happened h policies t w sound id d payload e tx c good at there ok))

    -- any submission
    pub submit_any : (o : Option Entities) → serving w d id ≡ o → Next h policies t w (Submit id d payload) (decision (submitted_in h d (sender_table d w.nodes) id payload o))
    submit_any None is =
        subst (λ s. Next h policies t w (Submit id d payload) (s, (No NoBearer, []))) (sym (same_nodes d w.nodes))
        (refuse_submission id d payload NoBearer refl (sym (ap (submit_answer d t) (serving_is h policies t w sound d id ∙ ap (option_map (λ (x : Entities). x.bearer)) is))))
    submit_any (Some e) is = submit_to e is

  -- a report is sent, or refused
  pub report_sound : (node : Node) (id : ℕ) → Next h policies t w (Report node id) (report_of w.nodes node id)
  report_sound node id = at node
    where
      refuse : (node : Node) → at_node node id t ≡ None → Next h policies t w (Report node id) (w.nodes, (No NoBearer, []))
      refuse node none =
          next h policies t w sound (Report node id) (w.nodes, (No NoBearer, []))
          (refused_happened h policies t w sound (Report node id) NoBearer (λ g. refl) refl (λ g o. refl) (λ b d c. refl) refl refl (sym (cond-false _ _ _ (ap (λ (x : Option Established). is_some x) none))))

      by : (d : Dir) (o : Option Entities) → serving w d id ≡ o
          → Next h policies t w (Report (submitter d) id) (let done = reported_by d (sender_table d w.nodes) id o in (with_sender d w.nodes done.0, done.1))
      by d None is =
          subst (λ s. Next h policies t w (Report (submitter d) id) (s, (No NoBearer, []))) (sym (same_nodes d w.nodes))
          (refuse (submitter d) (serving_is h policies t w sound d id ∙ ap (option_map (λ (x : Entities). x.bearer)) is))
      by d (Some e) is =
          let done = reports d e in
          next h policies t w sound (Report (submitter d) id) (with_sender d w.nodes (with_bearer (sender_table d w.nodes) id (Some done.0)), (answer.Ok, done.1))
          (reports_happened h policies t w sound d id e (serving_in h policies t w sound d id e is) (serving_is h policies t w sound d id ∙ ap (option_map (λ (x : Entities). x.bearer)) is))

      at : (node : Node) → Next h policies t w (Report node id) (report_of w.nodes node id)
      at M = by Dl (serving w Dl id) refl
      at T = by Ul (serving w Ul id) refl
      at A = refuse A refl
      at B = refuse B refl
