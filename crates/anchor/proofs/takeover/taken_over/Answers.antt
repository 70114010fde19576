use Rattle.std.proofs.Common.{ℕ, ◌≡◌, ◌++◌, List, ap, ◌∙◌}
use Rattle.std.proofs.lemmas.List.Elements.{All-append}
use Rattle.dc_base.specs.declared.numbers.SnLen.{SnLen}
use Rattle.pdcp_pdu.specs.DataPdu.{IsPayload}
use Rattle.pdcp_rx.proofs.Counts.{counts_increase}
use Rattle.std.specs.List.{filter_map}
use Rattle.pdcp_rx.specs.Entries.{Entry}
use Rattle.node_rules.specs.Adopting.{if_fresh, numbered_of, stored_of}
use Rattle.node_rules.specs.Entity.{Entity}
use Rattle.anchor.proofs.Counted.{numbered_ascends, numbered_below, numbered_near, stored_in_order}
use Rattle.anchor.proofs.takeover.taken_over.Goals as goal

pub adopt-requires-clause-held : goal.adopt-requires-clause-held
adopt-requires-clause-held c =
    rw c.in_ok-held.ensures (All-append IsPayload c.in_ok-below.below.fresh c.args.fresh c.in_ok-below.ensures.held c.requires)

pub adopt-requires-clause-ascending : goal.adopt-requires-clause-ascending
adopt-requires-clause-ascending c =
    rw c.in_ok-below.ensures.counted (counts_increase 0 (numbered_of c.n-n.result c.args.status.now.dl c.args.down) (numbered_ascends c.n-n.result c.args.status.now.dl c.args.down))

pub adopt-requires-clause-below : goal.adopt-requires-clause-below
adopt-requires-clause-below c = rw c.in_ok-below.ensures.counted (numbered_below c.n-n.result c.args.status.now.dl c.args.down)

pub adopt-requires-clause-near : goal.adopt-requires-clause-near
adopt-requires-clause-near c = rw c.in_ok-below.ensures.counted (numbered_near c.n-n.result c.args.status.now.dl c.args.down)

pub adopt-requires-clause-in_order : goal.adopt-requires-clause-in_order
adopt-requires-clause-in_order c = rw c.in_ok-above.ensures.counted (stored_in_order c.n-n.result c.args.status.now.ul c.args.up)

pub returns : goal.returns
returns c =
    let st = c.args.status.now in
    let made : SnLen → List Entry → List (List ℕ) → List Entry → Entity = λ n kept held stored. record {
      setup = c.args.setup;
      tx = record { n = n; next = st.dl; kept = kept; held = held };
      rx = record { n = n; deliv = st.ul; stored = stored };
    } in
    let n = c.n-n.result in
    let fresh = filter_map if_fresh c.args.down ++ c.args.fresh in
    c.in_ok-entity.ensures
    ∙ ap {B = Entity} (λ (x : List Entry). made n x c.in_ok-held.held c.in_ok-above.above.counted) c.in_ok-below.ensures.counted
    ∙ ap {B = Entity} (λ (x : List (List ℕ)). made n (numbered_of n st.dl c.args.down) x c.in_ok-above.above.counted) (c.in_ok-held.ensures ∙ ap (λ (xs : List (List ℕ)). xs ++ c.args.fresh) c.in_ok-below.ensures.fresh)
    ∙ ap {B = Entity} (λ (x : List Entry). made n (numbered_of n st.dl c.args.down) fresh x) c.in_ok-above.ensures.counted
    ∙ ap {B = Entity} (λ (m : SnLen). made m (numbered_of m st.dl c.args.down) fresh (stored_of m st.ul c.args.up)) c.n-n.ensures
