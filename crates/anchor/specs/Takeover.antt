-- The entity that is taken over, by what of the waiting anchor it comes from.
use Rattle.std.specs.Prelude.{List, ℕ, ◌++◌}
use Rattle.std.specs.List.{filter_map}
use Rattle.dc_base.specs.declared.records.StatusTransfer.{StatusTransfer}
use Rattle.forward.specs.Load.{Sdu}
use Rattle.node_rules.specs.Adopting.{if_fresh, numbered_of, stored_of}
use Rattle.node_rules.specs.Entity.{Entity}
use Rattle.node_rules.specs.Setup.{Setup}

-- both sides as the old anchor left them, and the SDUs that have no COUNT yet
abbrev pub entity_of : Setup → List (List ℕ) → StatusTransfer → List Sdu → List Sdu → Entity
entity_of setup fresh st down up = record {
  setup = setup;
  tx = record { n = setup.n; next = st.dl; kept = numbered_of setup.n st.dl down; held = filter_map if_fresh down ++ fresh };
  rx = record { n = setup.n; deliv = st.ul; stored = stored_of setup.n st.ul up };
}
