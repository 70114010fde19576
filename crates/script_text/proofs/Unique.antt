-- A line of a script stands for one event.
use Rattle.std.proofs.Common.{◌≡◌, ℕ, ◌+◌, ◌^◌, ◌<◌, ◌≤◌, List, [], ◌∷◌, length, Bool, true, false, Result, Ok, Err, get_or, refl, sym, ap, ◌∙◌, arith}
use Rattle.std.specs.Prelude.{codes, if◌then◌else◌}
use Rattle.std.specs.Str.{bytes_eq}
use Rattle.std.specs.Str.Parse.{digits_value}
use Rattle.std.specs.Fmt.{decimal}
use Rattle.std.proofs.lemmas.Fmt.{decimal_is_IsNumeral}
use Rattle.hex.specs.Hex.{decode_of, encode_lower, IsBytes}
use Rattle.hex.specs.declared.error.FromHexError.{FromHexError}
use Rattle.hex.proofs.HexLemmas.{decode_of-encode_lower}
use Rattle.dc_base.specs.declared.events.Event.{Event}
use Rattle.dc_base.specs.declared.events.Event.TheVariants as event
use Rattle.dc_base.specs.declared.nodes.Cell.TheVariants as cell
use Rattle.dc_base.specs.declared.nodes.Class.{Class}
use Rattle.dc_base.specs.declared.nodes.Class.TheVariants.{Ctl, Feed, Air, Tun}
use Rattle.dc_base.specs.declared.nodes.Dir.TheVariants.{Ul, Dl}
use Rattle.dc_base.specs.declared.nodes.LegSet.{LegSet}
use Rattle.dc_base.specs.declared.nodes.LegSet.TheVariants.{Mcg, Scg, Split}
use Rattle.dc_base.specs.declared.nodes.LinkId.{LinkId}
use Rattle.dc_base.specs.declared.nodes.Node.{Node}
use Rattle.dc_base.specs.declared.nodes.Node.TheVariants.{T, M, A, B}
use Rattle.dc_base.specs.declared.nodes.Shape.{Shape}
use Rattle.dc_base.specs.declared.nodes.Want.{Want}
use Rattle.dc_base.specs.declared.nodes.Want.TheVariants.{Rekey, Change, Release}
use Rattle.dc_base.specs.declared.numbers.SnLen.{SnLen}
use Rattle.dc_base.specs.declared.numbers.SnLen.TheVariants.{S12, S18}
use Rattle.transcript.specs.Words.{node_word, sn_word, class_word, link_word, legs_word, shape_word, state_word, want_word}
use Rattle.transcript.specs.Text.{event_text}
use Rattle.script_text.specs.declared.scripted.Scripted.{Scripted}
use Rattle.script_text.specs.declared.scripted.Scripted.TheVariants as scripted
use Rattle.script_text.specs.declared.spelling.Command.{Command}
use Rattle.script_text.specs.declared.spelling.Command.TheVariants as command
use Rattle.script_text.specs.Grammar.{command_word, fields}
use Rattle.script_text.specs.Scripts.{IsScripted, IsLineOf, event_fields}
use Rattle.script_text.proofs.Spaceless.{fields-spaced}
use Rattle.script_text.proofs.Outside.{command_from, same_command, is_command, fields-event_text}

-- ---- what a field stands for

-- the first of the values whose word this is
abbrev find : {X : Type 0} → (X → List ℕ) → List X → X → List ℕ → X
find word [] d f = d
find word (x ∷ xs) d f = if bytes_eq (word x) f then x else find word xs d f

abbrev node_from : List ℕ → Node
node_from f = find node_word (T ∷ M ∷ A ∷ []) B f

node_back : (n : Node) → node_from (node_word n) ≡ n
node_back T = refl
node_back M = refl
node_back A = refl
node_back B = refl

abbrev sn_from : List ℕ → SnLen
sn_from f = find sn_word (S12 ∷ []) S18 f

sn_back : (n : SnLen) → sn_from (sn_word n) ≡ n
sn_back S12 = refl
sn_back S18 = refl

abbrev state_from : List ℕ → Bool
state_from f = find state_word (true ∷ []) false f

state_back : (on : Bool) → state_from (state_word on) ≡ on
state_back true = refl
state_back false = refl

abbrev want_from : List ℕ → Want
want_from f = find want_word (Rekey ∷ Change ∷ []) Release f

want_back : (w : Want) → want_from (want_word w) ≡ w
want_back Rekey = refl
want_back Change = refl
want_back Release = refl

abbrev class_from : List ℕ → Class
class_from f = find class_word (Ctl ∷ Feed ∷ Air ∷ []) Tun f

-- a link has one letter for each end, a dot, and its class
abbrev link_from : List ℕ → LinkId
link_from (x ∷ y ∷ dot ∷ class) = record { from = node_from (x ∷ []); to = node_from (y ∷ []); class = class_from class }
link_from f = record { from = T; to = T; class = Ctl }

link_parts : (x y : Node) (c : Class) → link_from (link_word record { from = x; to = y; class = c }) ≡ record { from = x; to = y; class = c }
link_parts T T Ctl = refl
link_parts T T Feed = refl
link_parts T T Air = refl
link_parts T T Tun = refl
link_parts T M Ctl = refl
link_parts T M Feed = refl
link_parts T M Air = refl
link_parts T M Tun = refl
link_parts T A Ctl = refl
link_parts T A Feed = refl
link_parts T A Air = refl
link_parts T A Tun = refl
link_parts T B Ctl = refl
link_parts T B Feed = refl
link_parts T B Air = refl
link_parts T B Tun = refl
link_parts M T Ctl = refl
link_parts M T Feed = refl
link_parts M T Air = refl
link_parts M T Tun = refl
link_parts M M Ctl = refl
link_parts M M Feed = refl
link_parts M M Air = refl
link_parts M M Tun = refl
link_parts M A Ctl = refl
link_parts M A Feed = refl
link_parts M A Air = refl
link_parts M A Tun = refl
link_parts M B Ctl = refl
link_parts M B Feed = refl
link_parts M B Air = refl
link_parts M B Tun = refl
link_parts A T Ctl = refl
link_parts A T Feed = refl
link_parts A T Air = refl
link_parts A T Tun = refl
link_parts A M Ctl = refl
link_parts A M Feed = refl
link_parts A M Air = refl
link_parts A M Tun = refl
link_parts A A Ctl = refl
link_parts A A Feed = refl
link_parts A A Air = refl
link_parts A A Tun = refl
link_parts A B Ctl = refl
link_parts A B Feed = refl
link_parts A B Air = refl
link_parts A B Tun = refl
link_parts B T Ctl = refl
link_parts B T Feed = refl
link_parts B T Air = refl
link_parts B T Tun = refl
link_parts B M Ctl = refl
link_parts B M Feed = refl
link_parts B M Air = refl
link_parts B M Tun = refl
link_parts B A Ctl = refl
link_parts B A Feed = refl
link_parts B A Air = refl
link_parts B A Tun = refl
link_parts B B Ctl = refl
link_parts B B Feed = refl
link_parts B B Air = refl
link_parts B B Tun = refl

link_back : (l : LinkId) → link_from (link_word l) ≡ l
link_back l = link_parts l.from l.to l.class

abbrev shape : Bool → LegSet → Bool → Shape
shape second legs dup = record { at_second = second; legs = legs; dup = dup }

abbrev shapes : List Shape
shapes =
    shape false Mcg false ∷
    shape false Mcg true ∷
    shape false Scg false ∷
    shape false Scg true ∷
    shape false (Split cell.Mcg) false ∷
    shape false (Split cell.Mcg) true ∷
    shape false (Split cell.Scg) false ∷
    shape false (Split cell.Scg) true ∷
    shape true Mcg false ∷
    shape true Mcg true ∷
    shape true Scg false ∷
    shape true Scg true ∷
    shape true (Split cell.Mcg) false ∷
    shape true (Split cell.Mcg) true ∷
    shape true (Split cell.Scg) false ∷
    shape true (Split cell.Scg) true ∷
    []

abbrev shape_from : List ℕ → Shape
shape_from f = find shape_word shapes (shape false Mcg false) f

shape_parts : (second : Bool) (legs : LegSet) (dup : Bool) → shape_from (shape_word (shape second legs dup)) ≡ shape second legs dup
shape_parts false Mcg false = refl
shape_parts false Mcg true = refl
shape_parts false Scg false = refl
shape_parts false Scg true = refl
shape_parts false (Split cell.Mcg) false = refl
shape_parts false (Split cell.Mcg) true = refl
shape_parts false (Split cell.Scg) false = refl
shape_parts false (Split cell.Scg) true = refl
shape_parts true Mcg false = refl
shape_parts true Mcg true = refl
shape_parts true Scg false = refl
shape_parts true Scg true = refl
shape_parts true (Split cell.Mcg) false = refl
shape_parts true (Split cell.Mcg) true = refl
shape_parts true (Split cell.Scg) false = refl
shape_parts true (Split cell.Scg) true = refl

shape_back : (s : Shape) → shape_from (shape_word s) ≡ s
shape_back s = shape_parts s.at_second s.legs s.dup

number_from : List ℕ → ℕ
number_from f = digits_value 10 f

number_back : (n : ℕ) → n ≤ 4294967295 → number_from (decimal n) ≡ n
unfolding number_from
number_back n h = (decimal_is_IsNumeral n (omega (arith, h))).1

or_none : Result (List ℕ) FromHexError → List ℕ
or_none (Ok x) = x
or_none (Err e) = []

octets_from : List ℕ → List ℕ
octets_from f = or_none (decode_of f)

octets_back : (x : List ℕ) → IsBytes x → octets_from (encode_lower x) ≡ x
unfolding octets_from or_none
octets_back x h = let d = decode_of-encode_lower x h in rw d refl

-- ---- what the fields of a line stand for

abbrev rekey_from : List (List ℕ) → Event
rekey_from fs = if bytes_eq (get_or fs 0 []) (codes "m") then event.RekeyMaster (octets_from (get_or fs 1 [])) else event.RekeySecond

abbrev rest_from : Command → List (List ℕ) → Event
rest_from command.Bearer fs =
    event.Bearer (number_from (get_or fs 0 [])) (sn_from (get_or fs 1 [])) (number_from (get_or fs 2 [])) (shape_from (get_or fs 3 []))
    (number_from (get_or fs 4 [])) (number_from (get_or fs 5 []))
rest_from command.Shape fs = event.Reshape (number_from (get_or fs 0 [])) (shape_from (get_or fs 1 []))
rest_from command.Drop fs = event.Remove (number_from (get_or fs 0 []))
rest_from command.Add fs = event.Add (node_from (get_or fs 0 []))
rest_from command.Change fs = event.Change
rest_from command.Release fs = event.Release
rest_from command.Rekey fs = rekey_from fs
rest_from command.Recover fs = event.Recover (number_from (get_or fs 0 []))
rest_from command.Report fs = event.Report (node_from (get_or fs 0 [])) (number_from (get_or fs 1 []))
rest_from command.Deny fs = event.Deny (node_from (get_or fs 0 [])) (state_from (get_or fs 1 []))
rest_from command.Want fs = event.Ask (node_from (get_or fs 0 [])) (want_from (get_or fs 1 []))
rest_from command.ScgFail fs = event.ScgFail
rest_from command.Ul fs = event.Submit (number_from (get_or fs 0 [])) Ul (octets_from (get_or fs 1 []))
rest_from command.Dl fs = event.Submit (number_from (get_or fs 0 [])) Dl (octets_from (get_or fs 1 []))
rest_from command.Step fs = event.Step (link_from (get_or fs 0 [])) (number_from (get_or fs 1 []))
rest_from command.Lose fs = event.Lose (link_from (get_or fs 0 [])) (number_from (get_or fs 1 []))
rest_from command.Again fs = event.Again (link_from (get_or fs 0 [])) (number_from (get_or fs 1 []))
rest_from command.Drain fs = event.Change

abbrev event_from : List (List ℕ) → Event
event_from [] = event.Change
event_from (word ∷ rest) = rest_from (command_from word) rest

id_back : (id : ℕ) → id ≤ 32 → number_from (decimal id) ≡ id
id_back id h = number_back id (omega (arith, h))

event_back : (e : Event) → IsScripted e → event_from (event_fields e) ≡ e
event_back (event.Bearer id n first s threshold policy) h =
    ap (λ (x : ℕ). event.Bearer x (sn_from (sn_word n)) (number_from (decimal first)) (shape_from (shape_word s)) (number_from (decimal threshold)) (number_from (decimal policy))) (id_back id h.0.1)
    ∙ (ap (λ (x : SnLen). event.Bearer id x (number_from (decimal first)) (shape_from (shape_word s)) (number_from (decimal threshold)) (number_from (decimal policy))) (sn_back n)
    ∙ (ap (λ (x : ℕ). event.Bearer id n x (shape_from (shape_word s)) (number_from (decimal threshold)) (number_from (decimal policy))) (number_back first (omega (arith, h.1)))
    ∙ (ap (λ (x : Shape). event.Bearer id n first x (number_from (decimal threshold)) (number_from (decimal policy))) (shape_back s)
    ∙ (ap (λ (x : ℕ). event.Bearer id n first s x (number_from (decimal policy))) (number_back threshold (omega (arith, h.3)))
    ∙ (ap (λ (x : ℕ). event.Bearer id n first s threshold x) (number_back policy (omega (arith, h.4))))))))
event_back (event.Reshape id s) h =
    ap (λ (x : ℕ). event.Reshape x (shape_from (shape_word s))) (id_back id h.0.1)
    ∙ (ap (λ (x : Shape). event.Reshape id x) (shape_back s))
event_back (event.Remove id) h =
    ap (λ (x : ℕ). event.Remove x) (id_back id h.1)
event_back (event.Add node) h =
    ap (λ (x : Node). event.Add x) (node_back node)
event_back event.Change h =
    refl
event_back event.Release h =
    refl
event_back event.RekeySecond h =
    refl
event_back (event.RekeyMaster octets) h =
    ap (λ (x : List ℕ). event.RekeyMaster x) (octets_back octets h.0)
event_back (event.Recover id) h =
    ap (λ (x : ℕ). event.Recover x) (id_back id h.1)
event_back (event.Report node id) h =
    ap (λ (x : Node). event.Report x (number_from (decimal id))) (node_back node)
    ∙ (ap (λ (x : ℕ). event.Report node x) (id_back id h.1))
event_back (event.Deny node on) h =
    ap (λ (x : Node). event.Deny x (state_from (state_word on))) (node_back node)
    ∙ (ap (λ (x : Bool). event.Deny node x) (state_back on))
event_back (event.Ask node what) h =
    ap (λ (x : Node). event.Ask x (want_from (want_word what))) (node_back node)
    ∙ (ap (λ (x : Want). event.Ask node x) (want_back what))
event_back event.ScgFail h =
    refl
event_back (event.Submit id Ul octets) h =
    ap (λ (x : ℕ). event.Submit x Ul (octets_from (encode_lower octets))) (id_back id h.0.1)
    ∙ (ap (λ (x : List ℕ). event.Submit id Ul x) (octets_back octets h.1.bytes))
event_back (event.Submit id Dl octets) h =
    ap (λ (x : ℕ). event.Submit x Dl (octets_from (encode_lower octets))) (id_back id h.0.1)
    ∙ (ap (λ (x : List ℕ). event.Submit id Dl x) (octets_back octets h.1.bytes))
event_back (event.Step link index) h =
    ap (λ (x : LinkId). event.Step x (number_from (decimal index))) (link_back link)
    ∙ (ap (λ (x : ℕ). event.Step link x) (number_back index (omega (arith, h.1))))
event_back (event.Lose link index) h =
    ap (λ (x : LinkId). event.Lose x (number_from (decimal index))) (link_back link)
    ∙ (ap (λ (x : ℕ). event.Lose link x) (number_back index (omega (arith, h.1))))
event_back (event.Again link index) h =
    ap (λ (x : LinkId). event.Again x (number_from (decimal index))) (link_back link)
    ∙ (ap (λ (x : ℕ). event.Again link x) (number_back index (omega (arith, h.1))))

same_event : (a b : Event) → IsScripted a → IsScripted b → event_text a ≡ event_text b → a ≡ b
same_event a b ha hb e =
    sym (event_back a ha)
    ∙ (ap event_from (sym (fields-event_text a ha) ∙ (ap fields e ∙ fields-event_text b hb)) ∙ event_back b hb)

-- no event is written as a drain
no_drain : (e : Event) → IsScripted e → event_text e ≡ codes "drain" → ⊥
no_drain e h same =
    let k = is_command e h in
    let cut : command_word k.which ∷ k.rest ≡ codes "drain" ∷ [] =
    sym k.is ∙ (sym (fields-event_text e h) ∙ (ap fields same ∙ fields-spaced (codes "drain") [] (refl, tt))) in
    let word : command_word k.which ≡ codes "drain" = ap (λ (fs : List (List ℕ)). get_or fs 0 []) cut in
    k.other (same_command k.which command.Drain word)

-- a line stands for one thing
pub same_line : (a b : Scripted) (line : List ℕ) → IsLineOf a line → IsLineOf b line → a ≡ b
same_line (scripted.One a) (scripted.One b) line ha hb = ap scripted.One (same_event a b ha.0 hb.0 (sym ha.1 ∙ hb.1))
same_line (scripted.One a) scripted.Drain line ha hb = absurd (no_drain a ha.0 (sym ha.1 ∙ hb))
same_line scripted.Drain (scripted.One b) line ha hb = absurd (no_drain b hb.0 (sym hb.1 ∙ ha))
same_line scripted.Drain scripted.Drain line ha hb = refl
