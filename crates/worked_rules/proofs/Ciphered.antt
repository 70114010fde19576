-- A bearer that moves to the secondary node, under 128-NEA2 (TS 33.501, 6.10; TS 38.323, 5.8): the script.
use Rattle.std.specs.Prelude.{◌∷◌, [], List, true, false, replicate}
use Rattle.dc_base.specs.Links.{link}
use Rattle.dc_base.specs.declared.events.Event.TheVariants as event
use Rattle.dc_base.specs.declared.events.Header.{Header}
use Rattle.dc_base.specs.declared.nodes.Alg.TheVariants.{Nea2}
use Rattle.dc_base.specs.declared.nodes.Class.TheVariants.{Air}
use Rattle.dc_base.specs.declared.nodes.Dir.TheVariants.{Dl, Ul}
use Rattle.dc_base.specs.declared.nodes.LegSet.TheVariants.{Mcg, Scg}
use Rattle.dc_base.specs.declared.nodes.Node.TheVariants.{A, M, T}
use Rattle.dc_base.specs.declared.numbers.SnLen.TheVariants.{S12}
use Rattle.node_rules.proofs.Scripts.{Scripted, drain, one, shape}

-- the anchor moves to the secondary node, with what is not confirmed: its new PDUs are under K_SN, with the same COUNTs
abbrev pub moved_under_a_cipher : List Scripted
moved_under_a_cipher =
    one (event.Bearer 1 S12 0 (shape false Mcg false) 0 0)
    ∷ drain
    ∷ one (event.Add A)
    ∷ drain
    ∷ one (event.Submit 1 Dl (170 ∷ []))
    ∷ one (event.Submit 1 Dl (187 ∷ []))
    ∷ one (event.Submit 1 Ul (204 ∷ []))
    ∷ one (event.Submit 1 Ul (221 ∷ []))
    ∷ one (event.Step (link T M Air) 1)
    ∷ one (event.Reshape 1 (shape true Scg false))
    ∷ drain
    ∷ []

-- a header with ciphering, the root all zeros
abbrev pub ciphered : Header
ciphered = record { alg = Nea2; used = 0; root = replicate 32 0 }
