-- The lines of a script.
use Rattle.std.specs.Prelude.{◌≡◌, ℕ, ◌≤◌, List, [], ◌∷◌, length, codes, IsTrue}
use Rattle.std.specs.Fmt.{decimal}
use Rattle.hex.specs.Hex.{encode_lower, IsBytes}
use Rattle.dc_base.specs.declared.events.Event.{Event}
use Rattle.dc_base.specs.declared.events.Event.TheVariants as event
use Rattle.dc_base.specs.declared.events.Header.{Header}
use Rattle.pdcp_pdu.specs.DataPdu.{IsPayload}
use Rattle.transcript.specs.Words.{dir_word, node_word, sn_word, link_word, shape_word, want_word, state_word}
use Rattle.transcript.specs.Text.{event_text}
use Rattle.dc_base.specs.Links.{is_link}
use Rattle.dc_base.specs.Nodes.{is_shape, is_secondary}
use Rattle.script_text.specs.declared.scripted.Scripted.{Scripted}
use Rattle.script_text.specs.declared.scripted.Scripted.TheVariants.{One, Drain}

-- an identity that a bearer may have: 1 to 32
abbrev pub IsIdentity : ℕ → Type 0
IsIdentity id = (1 ≤ id) × (id ≤ 32)

-- octets that a root key may have: 32 of them
abbrev pub IsRoot : List ℕ → Type 0
IsRoot octets = IsBytes octets × (length octets ≡ 32)

-- an event that a script may have: its parts are in their ranges
abbrev pub IsScripted : Event → Type 0
IsScripted (event.Bearer id n first shape threshold policy) =
    IsIdentity id × (first ≤ 4294967294) × IsTrue (is_shape shape) × (threshold ≤ 4294967295) × (policy ≤ 255)
IsScripted (event.Reshape id shape) = IsIdentity id × IsTrue (is_shape shape)
IsScripted (event.Remove id) = IsIdentity id
IsScripted (event.Add node) = IsTrue (is_secondary node)
IsScripted event.Change = Unit {0}
IsScripted event.Release = Unit {0}
IsScripted event.RekeySecond = Unit {0}
IsScripted (event.RekeyMaster root) = IsRoot root
IsScripted (event.Recover id) = IsIdentity id
IsScripted (event.Report node id) = IsIdentity id
IsScripted (event.Deny node on) = IsTrue (is_secondary node)
IsScripted (event.Ask node what) = IsTrue (is_secondary node)
IsScripted event.ScgFail = Unit {0}
IsScripted (event.Submit id dir sdu) = IsIdentity id × IsPayload sdu
IsScripted (event.Step link index) = IsTrue (is_link link) × (index ≤ 4294967295)
IsScripted (event.Lose link index) = IsTrue (is_link link) × (index ≤ 4294967295)
IsScripted (event.Again link index) = IsTrue (is_link link) × (index ≤ 4294967295)

-- a header that a script may have
abbrev pub IsScriptHeader : Header → Type 0
IsScriptHeader h = (h.used ≤ 65536) × IsRoot h.root

-- the line of an event, or of a drain
abbrev pub IsLineOf : Scripted → List ℕ → Type 0
IsLineOf (One e) line = IsScripted e × (line ≡ event_text e)
IsLineOf Drain line = line ≡ codes "drain"

-- the fields of an event's line
abbrev pub event_fields : Event → List (List ℕ)
event_fields (event.Bearer id n first shape threshold policy) =
    codes "bearer" ∷ decimal id ∷ sn_word n ∷ decimal first ∷ shape_word shape ∷ decimal threshold ∷ decimal policy ∷ []
event_fields (event.Reshape id shape) = codes "shape" ∷ decimal id ∷ shape_word shape ∷ []
event_fields (event.Remove id) = codes "drop" ∷ decimal id ∷ []
event_fields (event.Add node) = codes "add" ∷ node_word node ∷ []
event_fields event.Change = codes "change" ∷ []
event_fields event.Release = codes "release" ∷ []
event_fields event.RekeySecond = codes "rekey" ∷ codes "s" ∷ []
event_fields (event.RekeyMaster root) = codes "rekey" ∷ codes "m" ∷ encode_lower root ∷ []
event_fields (event.Recover id) = codes "recover" ∷ decimal id ∷ []
event_fields (event.Report node id) = codes "report" ∷ node_word node ∷ decimal id ∷ []
event_fields (event.Deny node on) = codes "deny" ∷ node_word node ∷ state_word on ∷ []
event_fields (event.Ask node what) = codes "want" ∷ node_word node ∷ want_word what ∷ []
event_fields event.ScgFail = codes "scgfail" ∷ []
event_fields (event.Submit id dir sdu) = dir_word dir ∷ decimal id ∷ encode_lower sdu ∷ []
event_fields (event.Step link index) = codes "step" ∷ link_word link ∷ decimal index ∷ []
event_fields (event.Lose link index) = codes "lose" ∷ link_word link ∷ decimal index ∷ []
event_fields (event.Again link index) = codes "again" ∷ link_word link ∷ decimal index ∷ []

-- the fields of an event's line, or of a drain's
abbrev pub IsFieldsOf : Scripted → List (List ℕ) → Type 0
IsFieldsOf (One e) fs = IsScripted e × (fs ≡ event_fields e)
IsFieldsOf Drain fs = fs ≡ codes "drain" ∷ []
