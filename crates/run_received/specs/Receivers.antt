-- The receiving entity of an uplink is what the past says of it (TS 38.323, 5.2.2 and 7.1).
use Rattle.std.specs.Option.{option_map}
use Rattle.std.specs.Prelude.{not, None, Option, Some, true, ℕ, ◌<◌, ◌≡◌, ◌≤◌, ◌⊎◌}
use Rattle.dc_base.specs.declared.nodes.Dir.TheVariants.{Ul}
use Rattle.dc_base.specs.declared.nodes.Node.{Node}
use Rattle.dc_base.specs.declared.nodes.Node.TheVariants.{A, B, M, T}
use Rattle.claims.specs.Confirming.{is_confirmed}
use Rattle.claims.specs.Past.{Past}
use Rattle.claims.specs.Reading.{Setting, setting}
use Rattle.claims.specs.Sameness.{is_among}
use Rattle.key_chain.specs.KeyNames.{octets}
use Rattle.node_rules.specs.Anchor.{AnchorState, setup_at}
use Rattle.node_rules.specs.Feed.{Fed}
use Rattle.node_rules.specs.Held.{held}
use Rattle.node_rules.specs.World.{World}
use Rattle.pdcp_rx.specs.Receiver.{Received}
use Rattle.pdcp_rx.specs.declared.entity.RxParts.{RxParts}
use Rattle.pdcp_tx.specs.Sender.{Sender, is_kept}
use Rattle.run_receivers.specs.Pdus.{Ciphering, IsReader}
use Rattle.run_receivers.specs.Receiving.{IsReceiving, handed_by}
use Rattle.run_received.specs.Receipts.{Receipt, submitted_to}

-- the entity is right about what was submitted, from the terminal's Low on, which is the COUNT of the last `freed` line; what was
-- handed up are the submissions below its RX_DELIV; it received those COUNTs that were taken, and no others; and what was confirmed to
-- the terminal it received
pub record IsReceiver (r : Receipt) (rx : RxParts) : Type 0 where
  pub receiving : IsReceiving (submitted_to r) r.freed rx
  pub handed : r.handed ≡ handed_by (submitted_to r) rx
  pub taken : (c : ℕ) → is_among c r.taken ≡ true → Received rx c
  pub only : (c : ℕ) → r.first ≤ c → Received rx c → is_among c r.taken ≡ true
  pub confirmed : (c : ℕ) → is_confirmed r.confirms c ≡ true → Received rx c

-- the terminal's sending entity keeps what was not confirmed
abbrev pub IsSource : Receipt → Sender → Type 0
IsSource r tx = (c : ℕ) → r.first ≤ c → c < tx.next → is_kept tx.kept c ≡ not (is_confirmed r.confirms c)

-- what it does not keep was received
abbrev pub IsFound : Receipt → Sender → RxParts → Type 0
IsFound r tx rx = (c : ℕ) → r.first ≤ c → c < tx.next → (is_kept tx.kept c ≡ true) ⊎ Received rx c

-- ---- anchors

-- the anchor of a bearer at a node
abbrev pub anchor_at : Node → World → ℕ → Option AnchorState
anchor_at M w id = held id w.master.anchors
anchor_at A w id = option_map (λ (f : Fed). f.anchor) (held id w.a.anchors)
anchor_at B w id = option_map (λ (f : Fed). f.anchor) (held id w.b.anchors)
anchor_at T w id = None

-- how the uplink of an identity is ciphered under what a plan sets (TS 33.501, D.2.1)
abbrev pub ciphering_of : Past → ℕ → Setting → Ciphering
ciphering_of p id s = record { alg = p.header.alg; key = octets p.table.roots s.key; id = id; d = Ul }

-- an anchor reads what was submitted under the key of the plan of its generation
abbrev pub ReadsBy : Past → ℕ → Receipt → AnchorState → Type 0
ReadsBy p id r s = (q : Setting) → setting p id (setup_at s).g ≡ Some q → IsReader (submitted_to r) (ciphering_of p id q) (setup_at s)
