-- An anchor that may send its downlink: it is set up as the plan of its generation has it, and keeps what was submitted.
use Rattle.std.specs.Prelude.{Some, length, ◌<◌, ◌^◌, ◌≡◌, ◌≤◌}
use Rattle.dc_base.specs.declared.nodes.Dir.TheVariants.{Dl}
use Rattle.key_chain.specs.KeyNames.{octets}
use Rattle.pdcp_tx.specs.Sender.{Entry}
use Rattle.transcript.specs.Content.{direction_from}
use Rattle.claims.specs.Reading.{Setting, anchor_in}
use Rattle.node_rules.specs.Setup.{Setup}
use Rattle.run_receivers.specs.Submitted.{Submitted}
use Rattle.run_relays.specs.Pdus.{named_face, payload_of}
use Rattle.run_uplinks.specs.Readings.{Face, Reading}
use Rattle.run_uplinks.specs.Seen.{setting_in}

-- a setup is by the plan of its generation: at the node of the anchor, under the key of the plan, whose root was named, and of the
-- establishment that the generation is one of
pub record IsKeyedBy (r : Reading) (s : Setup) : Type 0 where
  pub set : Setting
  pub in_plan : setting_in r.plans s.id s.g ≡ Some set
  pub root : set.key.root < length r.roots
  pub key : s.key ≡ octets r.roots set.key
  pub alg : s.alg ≡ r.alg
  pub node : s.node ≡ anchor_in set
  pub down : direction_from s.node ≡ Dl
  pub face : Face
  pub of_face : named_face s.id s.g r.faces ≡ Some face
  pub n : s.n ≡ face.n
  pub some : 1 ≤ s.id
  pub most : s.id ≤ 32
  pub small : s.g < 2 ^ 24

-- an SDU is a payload that was submitted to the establishment under this COUNT
pub record IsSubmittedTo (f : Face) (e : Entry) : Type 0 where
  pub is : payload_of f e.0 ≡ Some e.1
  pub most : length e.1 ≤ 9000

-- what was submitted to it, in its order
abbrev pub submitted_to : Face → Submitted
submitted_to f = record { n = f.n; first = f.first; payloads = f.submitted }
