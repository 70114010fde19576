-- A line of a script has no column.
use Rattle.std.proofs.Common.{◌≡◌, ℕ, ◌+◌, ◌≤◌, List, [], ◌∷◌, ◌++◌, length, Bool, true, false, refl, sym, ap, subst, ◌∙◌, inl, inr, arith}
use Rattle.std.specs.Prelude.{codes, if◌then◌else◌}
use Rattle.std.specs.Str.{bytes_eq}
use Rattle.std.specs.Fmt.{decimal}
use Rattle.hex.specs.Hex.{encode_lower}
use Rattle.dc_base.specs.declared.events.Event.{Event}
use Rattle.dc_base.specs.declared.events.Event.TheVariants as event
use Rattle.dc_base.specs.declared.events.Header.{Header}
use Rattle.dc_base.specs.declared.nodes.Alg.{Alg}
use Rattle.dc_base.specs.declared.nodes.Alg.TheVariants.{Nea0, Nea2}
use Rattle.dc_base.specs.declared.nodes.Cell.TheVariants as cell
use Rattle.dc_base.specs.declared.nodes.Dir.TheVariants.{Ul, Dl}
use Rattle.dc_base.specs.declared.nodes.LegSet.{LegSet}
use Rattle.dc_base.specs.declared.nodes.LegSet.TheVariants.{Mcg, Scg, Split}
use Rattle.dc_base.specs.declared.nodes.Shape.{Shape}
use Rattle.dc_base.specs.declared.nodes.Want.{Want}
use Rattle.dc_base.specs.declared.nodes.Want.TheVariants.{Rekey, Change, Release}
use Rattle.dc_base.specs.declared.numbers.SnLen.{SnLen}
use Rattle.dc_base.specs.declared.numbers.SnLen.TheVariants.{S12, S18}
use Rattle.transcript.specs.Words.{spaced, alg_word, node_word, sn_word, link_word, legs_word, shape_word, state_word, want_word}
use Rattle.transcript.specs.Text.{event_text, header_text}
use Rattle.script_text.specs.declared.scripted.Scripted.{Scripted}
use Rattle.script_text.specs.declared.scripted.Scripted.TheVariants as scripted
use Rattle.script_text.specs.declared.spelling.Command.{Command}
use Rattle.script_text.specs.declared.spelling.Command.TheVariants as command
use Rattle.script_text.specs.Grammar.{Kind, Allows, kinds, fields, command_word, IsFault, IsFaultOf, IsColumn, IsHeaderColumn, header_kinds}
use Rattle.script_text.specs.Scripts.{IsScripted, IsScriptHeader, IsLineOf, event_fields}
use Rattle.script_text.specs.Places.{ForColumn}
use Rattle.script_text.specs.declared.scripted.LineFault.{LineFault}
use Rattle.script_text.specs.declared.scripted.LineFault.TheVariants as fault
use Rattle.script_text.proofs.Whole.{spaced-event_fields}
use Rattle.script_text.proofs.Spaceless.{is_spaceless, is_spaceless-append, Spaceless, fields-spaced, decimal_is_spaceless, octets_are_spaceless, node_is_spaceless, link_is_spaceless}

-- the fields are of these sorts, one by one
abbrev pub Match : List Kind → List (List ℕ) → Type 0
Match [] [] = Unit {0}
Match [] (f ∷ fs) = ⊥
Match (k ∷ ks) [] = ⊥
Match (k ∷ ks) (f ∷ fs) = Allows k f × Match ks fs

pub no_fault : (ks : List Kind) (fs : List (List ℕ)) (at c : ℕ) → Match ks fs → IsFault ks at fs c → ⊥
no_fault [] [] at c m h = h
no_fault [] (f ∷ fs) at c m h = m
no_fault (k ∷ ks) [] at c m h = m
no_fault (k ∷ ks) (f ∷ fs) at c m h =
    elim h [ inl here ↦ here.0 m.0 | inr more ↦ no_fault ks fs (at + length f + 1) c m.1 more.1 ]

-- the command of a word
abbrev pub command_from : List ℕ → Command
command_from word =
    if bytes_eq word (codes "bearer") then command.Bearer else
    if bytes_eq word (codes "shape") then command.Shape else
    if bytes_eq word (codes "drop") then command.Drop else
    if bytes_eq word (codes "add") then command.Add else
    if bytes_eq word (codes "change") then command.Change else
    if bytes_eq word (codes "release") then command.Release else
    if bytes_eq word (codes "rekey") then command.Rekey else
    if bytes_eq word (codes "recover") then command.Recover else
    if bytes_eq word (codes "report") then command.Report else
    if bytes_eq word (codes "deny") then command.Deny else
    if bytes_eq word (codes "want") then command.Want else
    if bytes_eq word (codes "scgfail") then command.ScgFail else
    if bytes_eq word (codes "ul") then command.Ul else
    if bytes_eq word (codes "dl") then command.Dl else
    if bytes_eq word (codes "step") then command.Step else
    if bytes_eq word (codes "lose") then command.Lose else
    if bytes_eq word (codes "again") then command.Again else
    command.Drain

pub command_from-word : (k : Command) → command_from (command_word k) ≡ k
command_from-word command.Bearer = refl
command_from-word command.Shape = refl
command_from-word command.Drop = refl
command_from-word command.Add = refl
command_from-word command.Change = refl
command_from-word command.Release = refl
command_from-word command.Rekey = refl
command_from-word command.Recover = refl
command_from-word command.Report = refl
command_from-word command.Deny = refl
command_from-word command.Want = refl
command_from-word command.ScgFail = refl
command_from-word command.Ul = refl
command_from-word command.Dl = refl
command_from-word command.Step = refl
command_from-word command.Lose = refl
command_from-word command.Again = refl
command_from-word command.Drain = refl

pub same_command : (a b : Command) → command_word a ≡ command_word b → a ≡ b
same_command a b e = sym (command_from-word a) ∙ (ap command_from e ∙ command_from-word b)

-- the command of an event, and that its other fields are of the command's sorts
pub record IsCommand (e : Event) : Type 0 where
  pub which : Command
  pub rest : List (List ℕ)
  pub is : event_fields e ≡ command_word which ∷ rest
  pub other : which ≡ command.Drain → ⊥
  pub sorts : Match (kinds which rest) rest
  pub spaceless : Spaceless (event_fields e)

id_below : (id : ℕ) → id ≤ 32 → is_spaceless (decimal id) ≡ true
id_below id h = decimal_is_spaceless id (omega (arith, h))

below : (n : ℕ) → n ≤ 4294967295 → is_spaceless (decimal n) ≡ true
below n h = decimal_is_spaceless n (omega (arith, h))

zero_least : (n : ℕ) → 0 ≤ n
zero_least n = omega arith

sn_spaceless : (n : SnLen) → is_spaceless (sn_word n) ≡ true
sn_spaceless S12 = refl
sn_spaceless S18 = refl

state_spaceless : (on : Bool) → is_spaceless (state_word on) ≡ true
state_spaceless true = refl
state_spaceless false = refl

want_spaceless : (w : Want) → is_spaceless (want_word w) ≡ true
want_spaceless Rekey = refl
want_spaceless Change = refl
want_spaceless Release = refl

anchor_spaceless : (b : Bool) → is_spaceless (if b then codes "s" else codes "m") ≡ true
anchor_spaceless true = refl
anchor_spaceless false = refl

legs_spaceless : (l : LegSet) → is_spaceless (legs_word l) ≡ true
legs_spaceless Mcg = refl
legs_spaceless Scg = refl
legs_spaceless (Split cell.Mcg) = refl
legs_spaceless (Split cell.Scg) = refl

duplication_spaceless : (b : Bool) → is_spaceless (if b then codes "d" else []) ≡ true
duplication_spaceless true = refl
duplication_spaceless false = refl

shape_spaceless : (s : Shape) → is_spaceless (shape_word s) ≡ true
shape_spaceless s =
    is_spaceless-append ((if s.at_second then codes "s" else codes "m") ++ legs_word s.legs) (if s.dup then codes "d" else [])
    (is_spaceless-append (if s.at_second then codes "s" else codes "m") (legs_word s.legs) (anchor_spaceless s.at_second) (legs_spaceless s.legs))
    (duplication_spaceless s.dup)

at_least : (octets : List ℕ) → length octets ≡ 32 → 32 ≤ length octets
at_least octets e = omega (arith, e)

at_most : (octets : List ℕ) → length octets ≡ 32 → length octets ≤ 32
at_most octets e = omega (arith, e)

pub is_command : (e : Event) → IsScripted e → IsCommand e
is_command (event.Bearer id n first shape threshold policy) h = record {
  which = command.Bearer;
  rest = decimal id ∷ sn_word n ∷ decimal first ∷ shape_word shape ∷ decimal threshold ∷ decimal policy ∷ [];
  is = refl;
  other = λ e. cc;
  sorts = ((id, h.0.0, h.0.1, refl), ((n, refl), ((first, zero_least first, h.1, refl), ((shape, h.2, refl), ((threshold, zero_least threshold, h.3, refl), ((policy, zero_least policy, h.4, refl), tt))))));
  spaceless = (refl, (id_below id h.0.1, (sn_spaceless n, (below first (omega (arith, h.1)), (shape_spaceless shape, (below threshold (omega (arith, h.3)), (below policy (omega (arith, h.4)), tt)))))));
}
is_command (event.Reshape id shape) h = record {
  which = command.Shape;
  rest = decimal id ∷ shape_word shape ∷ [];
  is = refl;
  other = λ e. cc;
  sorts = ((id, h.0.0, h.0.1, refl), ((shape, h.1, refl), tt));
  spaceless = (refl, (id_below id h.0.1, (shape_spaceless shape, tt)));
}
is_command (event.Remove id) h = record {
  which = command.Drop;
  rest = decimal id ∷ [];
  is = refl;
  other = λ e. cc;
  sorts = ((id, h.0, h.1, refl), tt);
  spaceless = (refl, (id_below id h.1, tt));
}
is_command (event.Add node) h = record {
  which = command.Add;
  rest = node_word node ∷ [];
  is = refl;
  other = λ e. cc;
  sorts = ((node, h, refl), tt);
  spaceless = (refl, (node_is_spaceless node, tt));
}
is_command event.Change h = record {
  which = command.Change;
  rest = [];
  is = refl;
  other = λ e. cc;
  sorts = tt;
  spaceless = (refl, tt);
}
is_command event.Release h = record {
  which = command.Release;
  rest = [];
  is = refl;
  other = λ e. cc;
  sorts = tt;
  spaceless = (refl, tt);
}
is_command event.RekeySecond h = record {
  which = command.Rekey;
  rest = codes "s" ∷ [];
  is = refl;
  other = λ e. cc;
  sorts = (refl, tt);
  spaceless = (refl, (refl, tt));
}
is_command (event.RekeyMaster octets) h = record {
  which = command.Rekey;
  rest = codes "m" ∷ encode_lower octets ∷ [];
  is = refl;
  other = λ e. cc;
  sorts = (refl, ((octets, h.0, at_least octets h.1, at_most octets h.1, refl), tt));
  spaceless = (refl, (refl, (octets_are_spaceless octets h.0, tt)));
}
is_command (event.Recover id) h = record {
  which = command.Recover;
  rest = decimal id ∷ [];
  is = refl;
  other = λ e. cc;
  sorts = ((id, h.0, h.1, refl), tt);
  spaceless = (refl, (id_below id h.1, tt));
}
is_command (event.Report node id) h = record {
  which = command.Report;
  rest = node_word node ∷ decimal id ∷ [];
  is = refl;
  other = λ e. cc;
  sorts = ((node, refl), ((id, h.0, h.1, refl), tt));
  spaceless = (refl, (node_is_spaceless node, (id_below id h.1, tt)));
}
is_command (event.Deny node on) h = record {
  which = command.Deny;
  rest = node_word node ∷ state_word on ∷ [];
  is = refl;
  other = λ e. cc;
  sorts = ((node, h, refl), ((on, refl), tt));
  spaceless = (refl, (node_is_spaceless node, (state_spaceless on, tt)));
}
is_command (event.Ask node what) h = record {
  which = command.Want;
  rest = node_word node ∷ want_word what ∷ [];
  is = refl;
  other = λ e. cc;
  sorts = ((node, h, refl), ((what, refl), tt));
  spaceless = (refl, (node_is_spaceless node, (want_spaceless what, tt)));
}
is_command event.ScgFail h = record {
  which = command.ScgFail;
  rest = [];
  is = refl;
  other = λ e. cc;
  sorts = tt;
  spaceless = (refl, tt);
}
is_command (event.Submit id Ul sdu) h = record {
  which = command.Ul;
  rest = decimal id ∷ encode_lower sdu ∷ [];
  is = refl;
  other = λ e. cc;
  sorts = ((id, h.0.0, h.0.1, refl), ((sdu, h.1.bytes, h.1.some, h.1.most, refl), tt));
  spaceless = (refl, (id_below id h.0.1, (octets_are_spaceless sdu h.1.bytes, tt)));
}
is_command (event.Submit id Dl sdu) h = record {
  which = command.Dl;
  rest = decimal id ∷ encode_lower sdu ∷ [];
  is = refl;
  other = λ e. cc;
  sorts = ((id, h.0.0, h.0.1, refl), ((sdu, h.1.bytes, h.1.some, h.1.most, refl), tt));
  spaceless = (refl, (id_below id h.0.1, (octets_are_spaceless sdu h.1.bytes, tt)));
}
is_command (event.Step link index) h = record {
  which = command.Step;
  rest = link_word link ∷ decimal index ∷ [];
  is = refl;
  other = λ e. cc;
  sorts = ((link, h.0, refl), ((index, zero_least index, h.1, refl), tt));
  spaceless = (refl, (link_is_spaceless link, (below index (omega (arith, h.1)), tt)));
}
is_command (event.Lose link index) h = record {
  which = command.Lose;
  rest = link_word link ∷ decimal index ∷ [];
  is = refl;
  other = λ e. cc;
  sorts = ((link, h.0, refl), ((index, zero_least index, h.1, refl), tt));
  spaceless = (refl, (link_is_spaceless link, (below index (omega (arith, h.1)), tt)));
}
is_command (event.Again link index) h = record {
  which = command.Again;
  rest = link_word link ∷ decimal index ∷ [];
  is = refl;
  other = λ e. cc;
  sorts = ((link, h.0, refl), ((index, zero_least index, h.1, refl), tt));
  spaceless = (refl, (link_is_spaceless link, (below index (omega (arith, h.1)), tt)));
}

-- the fields of an event's line
pub fields-event_text : (e : Event) → IsScripted e → fields (event_text e) ≡ event_fields e
fields-event_text e h =
    let k = is_command e h in
    let spaceless : Spaceless (command_word k.which ∷ k.rest) = subst Spaceless k.is k.spaceless in
    ap fields (sym (spaced-event_fields e))
    ∙ (ap (λ (fs : List (List ℕ)). fields (spaced fs)) k.is ∙ (fields-spaced (command_word k.which) k.rest spaceless ∙ sym k.is))

-- fields that are a command's have no fault
no_fault_of : (k : Command) (rest : List (List ℕ)) → Match (kinds k rest) rest → (c : ℕ) → IsFaultOf (command_word k ∷ rest) c → ⊥
no_fault_of k rest m c bad =
    elim bad [
      | inl none ↦ none.0 k refl
      | inr some ↦
          let same : k ≡ some.0 = same_command k some.0 some.1 in
          no_fault (kinds k rest) rest (length (command_word k) + 1) c m
          (subst (λ (w : Command). IsFault (kinds w rest) (length (command_word k) + 1) rest c) (sym same) some.2)
    ]

-- a line of a script has no column
pub no_column : (s : Scripted) (line : List ℕ) → IsLineOf s line → (c : ℕ) → IsColumn line c → ⊥
no_column (scripted.One e) line h c bad =
    let k = is_command e h.0 in
    let cut : fields line ≡ command_word k.which ∷ k.rest = ap fields h.1 ∙ (fields-event_text e h.0 ∙ k.is) in
    no_fault_of k.which k.rest k.sorts c (subst (λ (fs : List (List ℕ)). IsFaultOf fs c) cut bad)
no_column scripted.Drain line h c bad =
    let cut : fields line ≡ codes "drain" ∷ [] = ap fields h ∙ fields-spaced (codes "drain") [] (refl, tt) in
    no_fault_of command.Drain [] tt c (subst (λ (fs : List (List ℕ)). IsFaultOf fs c) cut bad)

-- nor has a fault's column another meaning
pub outside_of : (f : LineFault) (line : List ℕ) → ForColumn f (IsColumn line)
    → ForColumn f (λ _. (s : Scripted) → IsLineOf s line → ⊥)
outside_of (fault.Column c) line h = λ s is. no_column s line is c h
outside_of fault.Memory line h = tt

-- a first word that is no command
pub outside_at_word : (line word : List ℕ) (rest : List (List ℕ)) → fields line ≡ word ∷ rest
    → ((k : Command) → word ≡ command_word k → ⊥) → (s : Scripted) → IsLineOf s line → ⊥
outside_at_word line word rest found none s is =
    no_column s line is 1 (subst (λ (fs : List (List ℕ)). IsFaultOf fs 1) (sym found) (inl (none, refl)))

-- ---- headers

alg_spaceless : (a : Alg) → is_spaceless (alg_word a) ≡ true
alg_spaceless Nea0 = refl
alg_spaceless Nea2 = refl

-- a header has no column
no_header_column : (h : Header) → IsScriptHeader h → (line : List ℕ) → line ≡ header_text h → (c : ℕ) → IsHeaderColumn line c → ⊥
no_header_column h is line e c bad =
    let rest = alg_word h.alg ∷ decimal h.used ∷ encode_lower h.root ∷ [] in
    let spaceless : Spaceless (codes "dcs1" ∷ rest) =
    (refl, (alg_spaceless h.alg, (decimal_is_spaceless h.used (omega (arith, is.0)), (octets_are_spaceless h.root is.1.0, tt)))) in
    let cut : fields line ≡ codes "dcs1" ∷ rest = ap fields e ∙ fields-spaced (codes "dcs1") rest spaceless in
    let sorts : Match header_kinds (codes "dcs1" ∷ rest) =
    (refl, ((h.alg, refl), ((h.used, zero_least h.used, is.0, refl), ((h.root, is.1.0, at_least h.root is.1.1, at_most h.root is.1.1, refl), tt)))) in
    no_fault header_kinds (codes "dcs1" ∷ rest) 0 c sorts (subst (λ (fs : List (List ℕ)). IsFault header_kinds 0 fs c) cut bad)

pub outside_of_header : (f : LineFault) (line : List ℕ) → ForColumn f (IsHeaderColumn line)
    → ForColumn f (λ _. (h : Header) → IsScriptHeader h → line ≡ header_text h → ⊥)
outside_of_header (fault.Column c) line bad = λ h is e. no_header_column h is line e c bad
outside_of_header fault.Memory line bad = tt
