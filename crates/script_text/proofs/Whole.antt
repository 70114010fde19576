-- A line and its fields.
use Rattle.std.proofs.Common.{◌≡◌, ℕ, ◌+◌, List, [], ◌∷◌, length, refl, sym, ap, subst, ◌∙◌, inr, arith}
use Rattle.std.specs.Prelude.{codes}
use Rattle.std.proofs.lemmas.List.Splits.{length-slice_split}
use Rattle.std.proofs.lemmas.Slice.Eq.{bytes_eq-Decides}
use Rattle.script_text.specs.declared.scripted.LineFault.{LineFault}
use Rattle.script_text.specs.declared.scripted.LineFault.TheVariants as fault
use Rattle.script_text.specs.declared.spelling.Command.{Command}
use Rattle.script_text.proofs.Taking.{later}
use Rattle.std.proofs.Math.Dec.{leb-zero}
use Rattle.std.specs.Fmt.{decimal}
use Rattle.std.proofs.lemmas.List.Splits.{join_with_byte-slice_split}
use Rattle.hex.specs.Hex.{encode_lower}
use Rattle.dc_base.specs.declared.events.Event.{Event}
use Rattle.dc_base.specs.declared.events.Event.TheVariants as event
use Rattle.dc_base.specs.declared.events.Header.{Header}
use Rattle.transcript.specs.Words.{spaced, alg_word}
use Rattle.transcript.specs.Text.{event_text, header_text}
use Rattle.script_text.specs.declared.scripted.Scripted.{Scripted}
use Rattle.script_text.specs.declared.scripted.Scripted.TheVariants.{One, Drain}
use Rattle.script_text.specs.Grammar.{Kind, Exactly, root, fields, is_space, kinds, rekey_kinds, header_kinds, command_word, IsFault, IsFaultOf, IsColumn, IsHeaderColumn}
use Rattle.script_text.specs.Scripts.{event_fields, IsFieldsOf, IsLineOf}
use Rattle.script_text.specs.Places.{Left, IsFaultAt, ForColumn, fields_from}

-- from its beginning on a line has all its fields
pub fields_from-start : (line : List ℕ) → fields_from line 0 ≡ fields line
fields_from-start line = rw (leb-zero (length line)) refl

-- a line is its fields with a space between two
pub spaced-fields : (line : List ℕ) → spaced (fields line) ≡ line
spaced-fields line = join_with_byte-slice_split 32 line

pub spaced-event_fields : (e : Event) → spaced (event_fields e) ≡ event_text e
spaced-event_fields (event.Bearer id n first shape threshold policy) = refl
spaced-event_fields (event.Reshape id shape) = refl
spaced-event_fields (event.Remove id) = refl
spaced-event_fields (event.Add node) = refl
spaced-event_fields event.Change = refl
spaced-event_fields event.Release = refl
spaced-event_fields event.RekeySecond = refl
spaced-event_fields (event.RekeyMaster octets) = refl
spaced-event_fields (event.Recover id) = refl
spaced-event_fields (event.Report node id) = refl
spaced-event_fields (event.Deny node on) = refl
spaced-event_fields (event.Ask node what) = refl
spaced-event_fields event.ScgFail = refl
spaced-event_fields (event.Submit id dir sdu) = refl
spaced-event_fields (event.Step link index) = refl
spaced-event_fields (event.Lose link index) = refl
spaced-event_fields (event.Again link index) = refl

-- the line of its fields
pub line_of_fields : (s : Scripted) (line : List ℕ) → IsFieldsOf s (fields line) → IsLineOf s line
line_of_fields (One e) line h = (h.0, sym (spaced-fields line) ∙ (ap spaced h.1 ∙ spaced-event_fields e))
line_of_fields Drain line h = sym (spaced-fields line) ∙ ap spaced h

pub header_of_fields : (h : Header) (line : List ℕ)
    → fields line ≡ codes "dcs1" ∷ alg_word h.alg ∷ decimal h.used ∷ encode_lower h.root ∷ [] → line ≡ header_text h
header_of_fields h line e = sym (spaced-fields line) ∙ ap spaced e

-- a line has a field
pub has_a_field : (line : List ℕ) (fs : List (List ℕ)) → fs ≡ fields line → fs ≡ [] → ⊥
has_a_field line fs whole e =
    let one = length-slice_split is_space line in
    let none : length (fields line) ≡ 0 = ap length (sym whole ∙ e) in
    omega (arith, one, none)

-- the fields after the first word make the line
pub line_of_rest : (s : Scripted) (line word : List ℕ) (fs rest : List (List ℕ)) (k : Command) → fs ≡ fields line → fs ≡ word ∷ rest
    → word ≡ command_word k → IsFieldsOf s (command_word k ∷ rest) → IsLineOf s line
line_of_rest s line word fs rest k start found spelled h =
    let whole : command_word k ∷ rest ≡ fields line =
    ap (λ (w : List ℕ). w ∷ rest) (sym spelled) ∙ (sym found ∙ start) in
    line_of_fields s line (subst (IsFieldsOf s) whole h)

-- a fault of the fields after the first word is the line's
pub column_of_rest : (f : LineFault) (line word : List ℕ) (old new : Left) (k : Command) → old.at ≡ 0 → old.fields ≡ fields line
    → old.fields ≡ word ∷ new.fields → new.at ≡ old.at + length word + 1 → word ≡ command_word k → IsFaultAt (kinds k new.fields) new f
    → ForColumn f (IsColumn line)
column_of_rest (fault.Column c) line word old new k zero start found moved spelled h =
    let place : new.at ≡ length word + 1 = omega (arith, moved, zero) in
    subst (λ (fs : List (List ℕ)). IsFaultOf fs c) (sym found ∙ start)
    (inr (k, spelled, subst (λ (a : ℕ). IsFault (kinds k new.fields) a new.fields c) place h))
column_of_rest fault.Memory line word old new k zero start found moved spelled h = tt

pub header_column : (line : List ℕ) (left : Left) (f : LineFault) → left.at ≡ 0 → left.fields ≡ fields line → IsFaultAt header_kinds left f
    → ForColumn f (IsHeaderColumn line)
header_column line left (fault.Column c) zero start h =
    subst (λ (fs : List (List ℕ)). IsFault header_kinds 0 fs c) start (subst (λ (a : ℕ). IsFault header_kinds a left.fields c) zero h)
header_column line left fault.Memory zero start h = tt

-- four fields, taken one by one
pub four_fields : (a b c d : List ℕ) (f0 f1 f2 f3 f4 : List (List ℕ)) → f0 ≡ a ∷ f1 → f1 ≡ b ∷ f2 → f2 ≡ c ∷ f3 → f3 ≡ d ∷ f4 → f4 ≡ []
    → f0 ≡ a ∷ b ∷ c ∷ d ∷ []
four_fields a b c d f0 f1 f2 f3 f4 e0 e1 e2 e3 e4 = rw (e0, e1, e2, e3, e4) refl

-- `rekey m`
rekey_master : (fs rest : List (List ℕ)) (side : List ℕ) → fs ≡ side ∷ rest → side ≡ codes "m" → rekey_kinds fs ≡ Exactly (codes "m") ∷ root ∷ []
rekey_master fs rest side found same =
    let test = (bytes_eq-Decides side (codes "m")).1 same in
    rw (found, test) refl

pub rekey_master_fault : (side : List ℕ) (old new : Left) (f : LineFault) → side ≡ codes "m"
    → old.fields ≡ side ∷ new.fields → new.at ≡ old.at + length side + 1 → IsFaultAt (root ∷ []) new f
    → IsFaultAt (rekey_kinds old.fields) old f
rekey_master_fault side old new f same found moved h =
    subst (λ (ks : List Kind). IsFaultAt ks old f) (sym (rekey_master old.fields new.fields side found same))
    (later (Exactly (codes "m")) (root ∷ []) side old new f record { allowed = same; found = found; moved = moved } h)

pub rekey_master_fields : (side octets : List ℕ) (fs rest last : List (List ℕ)) → side ≡ codes "m"
    → fs ≡ side ∷ rest → rest ≡ encode_lower octets ∷ last → last ≡ []
    → codes "rekey" ∷ fs ≡ codes "rekey" ∷ codes "m" ∷ encode_lower octets ∷ []
rekey_master_fields side octets fs rest last same found then end =
    ap (λ (l : List (List ℕ)). codes "rekey" ∷ l)
    (found ∙ (ap (λ (w : List ℕ). w ∷ rest) same
    ∙ ap (λ (l : List (List ℕ)). codes "m" ∷ l) (then ∙ ap (λ (l : List (List ℕ)). encode_lower octets ∷ l) end)))
