-- Tunnel endpoint identifiers: each bearer and generation has four, one a kind of traffic.
use Rattle.std.specs.Prelude.{ℕ, ◌+◌, ◌-◌, ◌*◌, ◌/◌, ◌%◌}

-- the TEID of a generation, an identity and a kind
abbrev pub teid : ℕ → ℕ → ℕ → ℕ
teid g id kind = g * 128 + (id - 1) * 4 + kind

-- and the three numbers of any TEID
abbrev pub teid_gen : ℕ → ℕ
teid_gen teid = teid / 128

-- the identity of the bearer, 1 to 32
abbrev pub teid_id : ℕ → ℕ
teid_id teid = 1 + (teid % 128) / 4

-- the kind of traffic: 0 for the bearer's own, 1 for downlink forwarding, 2 for uplink forwarding; 3 is spare
abbrev pub teid_kind : ℕ → ℕ
teid_kind teid = teid % 4
