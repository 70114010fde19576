-- Fields that have parts.
use Rattle.std.proofs.Common.{◌≡◌, ℕ, ◌≤◌, List, [], ◌∷◌, ◌++◌, Option, Some, None, Result, Err, refl, sym, ap, subst, ◌∙◌, arith, append_assoc}
use Rattle.std.specs.Prelude.{IfErr, IfNone}
use Rattle.std.specs.Fmt.{decimal}
use Rattle.std.specs.List.{join_with_byte}
use Rattle.std.proofs.lemmas.List.Splits.{join_with_byte-slice_split}
use Rattle.dc_base.specs.declared.nodes.KeyName.{KeyName}
use Rattle.dc_base.specs.declared.nodes.Node.{Node}
use Rattle.dc_base.specs.declared.nodes.Shape.{Shape}
use Rattle.dc_base.specs.declared.nodes.Side.{Side}
use Rattle.dc_base.specs.declared.nodes.Side.TheVariants.{Master, Second}
use Rattle.dc_base.specs.declared.numbers.SnLen.{SnLen}
use Rattle.dc_base.specs.declared.records.Item.{Item}
use Rattle.dc_base.specs.declared.records.Item.TheVariants.{Set, Unset}
use Rattle.transcript.specs.Words.{key_word, side_word, or_dash, node_word, sn_word, shape_word}
use Rattle.transcript.specs.Text.{item_text}
use Rattle.script_text.specs.Scripts.{IsIdentity}
use Rattle.transcript_text.specs.Ranges.{IsWord, IsItem, IsSide}
use Rattle.transcript_text.specs.Grammar.{Kind, Number, Key, BearerPair, PlanItem, Allows, IsFault, parts, identity, word_32}
use Rattle.transcript_text.specs.Items.{item_parts, set_kinds}
use Rattle.transcript_text.specs.Places.{Left, IsFaultAt}
use Rattle.transcript_text.specs.declared.fault.LineFault.{LineFault}
use Rattle.transcript_text.specs.declared.fault.LineFault.TheVariants as fault
use Rattle.transcript_text.proofs.Free.{AllFree, parts-joined, decimal_is_free}
use Rattle.transcript_text.proofs.Sorts.{item_parts_free, pair_parts_free}
use Rattle.transcript_text.proofs.Matching.{Match, no_fault}
use Rattle.transcript_text.proofs.Beginning.{id_of, word_of}

-- a text that is written of parts of their sorts has no fault
parts_have_no_fault : (s : ℕ) (ks : List Kind) (f : List ℕ) (fs : List (List ℕ)) (text : List ℕ) (left : Left) (c : ℕ)
    → left.fields ≡ parts s text → text ≡ join_with_byte s (f ∷ fs) → AllFree s (f ∷ fs) → Match ks (f ∷ fs)
    → IsFaultAt ks left (fault.Column c) → ⊥
parts_have_no_fault s ks f fs text left c start written free m bad =
    let cut : left.fields ≡ f ∷ fs = start ∙ (ap (parts s) written ∙ parts-joined s f fs free) in
    no_fault ks (f ∷ fs) left.at c m (subst (λ (l : List (List ℕ)). IsFault ks left.at l c) cut bad)

-- a text is its parts
pub joined_of_parts : (s : ℕ) (fs : List (List ℕ)) (text : List ℕ) (left : Left) → left.fields ≡ parts s text → left.fields ≡ fs
    → text ≡ join_with_byte s fs
joined_of_parts s fs text left start read = sym (join_with_byte-slice_split s text) ∙ ap (join_with_byte s) (sym start ∙ read)

-- what is said of the column of a call that failed
pub told : {T : Type 0} (r : Result T LineFault) (P : LineFault → Type 0) (e : LineFault) (n : ℕ) → IfErr r P → r ≡ Err e → e ≡ fault.Column n
    → P (fault.Column n)
told r P e n h is at = subst P at (subst (λ (x : Result _ LineFault). IfErr x P) is h)

-- a text with such a fault is no pair
pub no_pair : (text : List ℕ) (left : Left) (c : ℕ) → left.fields ≡ parts 47 text
    → IsFaultAt (identity ∷ word_32 ∷ []) left (fault.Column c) → Allows BearerPair text → ⊥
no_pair text left c start bad w =
    parts_have_no_fault 47 (identity ∷ word_32 ∷ []) (decimal w.0.0) (decimal w.0.1 ∷ []) text left c start
    (w.2 ∙ append_assoc (decimal w.0.0) (47 ∷ []) (decimal w.0.1))
    (pair_parts_free w.0 w.1) (id_of w.0.0 w.1.0, (word_of w.0.1 w.1.1, tt)) bad

second_parts_free : (root counter : ℕ) → IsWord root → counter ≤ 65535 → AllFree 46 (decimal root ∷ decimal counter ∷ [])
second_parts_free root counter hr hc =
    (decimal_is_free 46 root (omega arith) (omega (arith, hr)), (decimal_is_free 46 counter (omega arith) (omega (arith, hc)), tt))

abbrev first_of_list : List ℕ → ℕ
first_of_list [] = 0
first_of_list (o ∷ os) = o

abbrev rest_of_list : List ℕ → List ℕ
rest_of_list [] = []
rest_of_list (o ∷ os) = os

no_second_side : (text : List ℕ) (left : Left) (c root : ℕ) (side : Side) → left.fields ≡ parts 46 text
    → IsFaultAt (word_32 ∷ Number 0 65535 ∷ []) left (fault.Column c) → IsWord root → IsSide side
    → 115 ∷ text ≡ side_word root side → ⊥
no_second_side text left c root Master start bad hr hs e =
    let heads : 115 ≡ 109 = ap first_of_list e in
    omega (arith, heads)
no_second_side text left c root (Second counter) start bad hr hs e =
    let written : text ≡ (decimal root ++ 46 ∷ []) ++ decimal counter = ap rest_of_list e in
    parts_have_no_fault 46 (word_32 ∷ Number 0 65535 ∷ []) (decimal root) (decimal counter ∷ []) text left c start
    (written ∙ append_assoc (decimal root) (46 ∷ []) (decimal counter))
    (second_parts_free root counter hr hs) (word_of root hr, ((counter, (omega arith, hs), refl), tt)) bad

-- a text with such a fault names no K_SN
pub no_second_key : (text : List ℕ) (left : Left) (c : ℕ) → left.fields ≡ parts 46 text
    → IsFaultAt (word_32 ∷ Number 0 65535 ∷ []) left (fault.Column c) → Allows Key (115 ∷ text) → ⊥
no_second_key text left c start bad w = no_second_side text left c w.0.root w.0.side start bad w.1.0 w.1.1 w.2

set_match : (id : ℕ) (n : SnLen) (first : ℕ) (shape : Shape) (threshold policy : ℕ) (key : KeyName) (old : Option Node)
    → IsItem (Set id n first shape threshold policy key old) → Match set_kinds (item_parts (Set id n first shape threshold policy key old))
set_match id n first shape threshold policy key old h = (
  id_of id h.0,
  (
    (n, refl),
    (
      word_of first h.1,
      (
        (shape, h.2, refl),
        (
          word_of threshold h.3,
          ((policy, (omega arith, h.4), refl), ((key, h.5, refl), ((old, refl), tt))),
        ),
      ),
    ),
  ),
)

no_item_of : (text : List ℕ) (left : Left) (c : ℕ) (i : Item) → left.fields ≡ parts 47 text → IsFaultAt set_kinds left (fault.Column c)
    → ((id : ℕ) → IsIdentity id → text ≡ item_text (Unset id) → ⊥) → IsItem i → text ≡ item_text i → ⊥
no_item_of text left c (Set id n first shape threshold policy key old) start bad none h e =
    parts_have_no_fault 47 set_kinds (decimal id)
    (sn_word n ∷ decimal first ∷ shape_word shape ∷ decimal threshold ∷ decimal policy ∷ key_word key ∷ or_dash node_word old ∷ [])
    text left c start e (item_parts_free id n first shape threshold policy key old h) (set_match id n first shape threshold policy key old h) bad
no_item_of text left c (Unset id) start bad none h e = none id h e

-- a text with such a fault that drops no bearer is no item
pub no_item : (text : List ℕ) (left : Left) (c : ℕ) → left.fields ≡ parts 47 text → IsFaultAt set_kinds left (fault.Column c)
    → ((id : ℕ) → IsIdentity id → text ≡ item_text (Unset id) → ⊥) → Allows PlanItem text → ⊥
no_item text left c start bad none w = no_item_of text left c w.0 start bad none w.1 w.2

-- the same, where a call says that it drops none
pub no_item_if : (o : Option Item) (text : List ℕ) (left : Left) (c : ℕ) → IfNone o ((id : ℕ) → IsIdentity id → text ≡ item_text (Unset id) → ⊥)
    → left.fields ≡ parts 47 text → IsFaultAt set_kinds left (fault.Column c) → IfNone o (Allows PlanItem text → ⊥)
no_item_if (Some i) text left c none start bad = tt
no_item_if None text left c none start bad = no_item text left c start bad none

-- the parts of an item make its text
pub joined_item : (i : Item) → join_with_byte 47 (item_parts i) ≡ item_text i
joined_item (Set id n first shape threshold policy key old) = refl
joined_item (Unset id) = refl
