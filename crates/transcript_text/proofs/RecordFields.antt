-- The fields of records have no fault.
use Rattle.std.proofs.Common.{◌≡◌, [], ◌∷◌, true, map, refl}
use Rattle.std.specs.Fmt.{decimal}
use Rattle.dc_base.specs.declared.records.Plan.{Plan}
use Rattle.dc_base.specs.declared.records.Rec.{Rec}
use Rattle.dc_base.specs.declared.records.Rec.TheVariants as rec
use Rattle.dc_base.specs.declared.records.RecKind.TheVariants as kind
use Rattle.transcript.specs.Words.{spaced, octets_or_dash, cause_word}
use Rattle.transcript.specs.Text.{item_text, pair_text, rec_text}
use Rattle.transcript_text.specs.Ranges.{IsPlan, IsItem, IsPair, IsRecord}
use Rattle.transcript_text.specs.Words.{carried_word}
use Rattle.transcript_text.specs.declared.words.Carried.TheVariants as carried
use Rattle.transcript_text.specs.Fields.{plan_fields, rec_fields}
use Rattle.transcript_text.specs.Grammar.{PlanItem, BearerPair, Bits, Cause, AfterCarried, each, plan_kinds, identity, word_32}
use Rattle.transcript_text.proofs.Matching.{Match, all_small, each_match, each_small}
use Rattle.transcript_text.proofs.Beginning.{Begins, begins, id_of, word_of}

plan_match : (p : Plan) → IsPlan p → Match (plan_kinds (plan_fields p)) (plan_fields p)
plan_match p h = (word_of p.g h.0, ((p.sec, refl), each_match PlanItem item_text IsItem (λ i is. (i, is, refl)) p.items h.1))

plan_small : (p : Plan) → all_small (plan_kinds (plan_fields p)) ≡ true
plan_small p = each_small PlanItem refl (map item_text p.items)

-- the fields of a record begin with its name
pub record_begins : (r : Rec) → IsRecord r → Begins carried_word AfterCarried (rec_fields r)
record_begins (rec.Reconf plan key) h =
    begins carried_word AfterCarried (carried.Record kind.Reconf) (plan_kinds (plan_fields plan)) (plan_fields plan) (plan_small plan) (plan_match plan h) (λ at c bad. bad)
record_begins (rec.Rcomp g) h =
    begins carried_word AfterCarried (carried.Record kind.Rcomp) (word_32 ∷ []) (decimal g ∷ []) (refl) (word_of g h, tt) (λ at c bad. bad)
record_begins (rec.Scgf failed) h =
    begins carried_word AfterCarried (carried.Record kind.Scgf) (each BearerPair (map pair_text failed)) (map pair_text failed) (each_small BearerPair refl (map pair_text failed)) (each_match BearerPair pair_text IsPair (λ p is. (p, is, refl)) failed h) (λ at c bad. bad)
record_begins (rec.Recov id) h =
    begins carried_word AfterCarried (carried.Record kind.Recov) (identity ∷ []) (decimal id ∷ []) (refl) (id_of id h, tt) (λ at c bad. bad)
record_begins (rec.Recovd id) h =
    begins carried_word AfterCarried (carried.Record kind.Recovd) (identity ∷ []) (decimal id ∷ []) (refl) (id_of id h, tt) (λ at c bad. bad)
record_begins (rec.Addreq plan key) h =
    begins carried_word AfterCarried (carried.Record kind.Addreq) (plan_kinds (plan_fields plan)) (plan_fields plan) (plan_small plan) (plan_match plan h) (λ at c bad. bad)
record_begins (rec.Addack g) h =
    begins carried_word AfterCarried (carried.Record kind.Addack) (word_32 ∷ []) (decimal g ∷ []) (refl) (word_of g h, tt) (λ at c bad. bad)
record_begins (rec.Addrej g) h =
    begins carried_word AfterCarried (carried.Record kind.Addrej) (word_32 ∷ []) (decimal g ∷ []) (refl) (word_of g h, tt) (λ at c bad. bad)
record_begins (rec.Modreq plan key) h =
    begins carried_word AfterCarried (carried.Record kind.Modreq) (plan_kinds (plan_fields plan)) (plan_fields plan) (plan_small plan) (plan_match plan h) (λ at c bad. bad)
record_begins (rec.Modack g) h =
    begins carried_word AfterCarried (carried.Record kind.Modack) (word_32 ∷ []) (decimal g ∷ []) (refl) (word_of g h, tt) (λ at c bad. bad)
record_begins (rec.Modrej g) h =
    begins carried_word AfterCarried (carried.Record kind.Modrej) (word_32 ∷ []) (decimal g ∷ []) (refl) (word_of g h, tt) (λ at c bad. bad)
record_begins (rec.Recfg g) h =
    begins carried_word AfterCarried (carried.Record kind.Recfg) (word_32 ∷ []) (decimal g ∷ []) (refl) (word_of g h, tt) (λ at c bad. bad)
record_begins (rec.Relreq plan) h =
    begins carried_word AfterCarried (carried.Record kind.Relreq) (plan_kinds (plan_fields plan)) (plan_fields plan) (plan_small plan) (plan_match plan h) (λ at c bad. bad)
record_begins (rec.Relack g) h =
    begins carried_word AfterCarried (carried.Record kind.Relack) (word_32 ∷ []) (decimal g ∷ []) (refl) (word_of g h, tt) (λ at c bad. bad)
record_begins (rec.Relrej g) h =
    begins carried_word AfterCarried (carried.Record kind.Relrej) (word_32 ∷ []) (decimal g ∷ []) (refl) (word_of g h, tt) (λ at c bad. bad)
record_begins (rec.Uecr g) h =
    begins carried_word AfterCarried (carried.Record kind.Uecr) (word_32 ∷ []) (decimal g ∷ []) (refl) (word_of g h, tt) (λ at c bad. bad)
record_begins (rec.Snst s) h =
    begins carried_word AfterCarried (carried.Record kind.Snst) (word_32 ∷ identity ∷ word_32 ∷ Bits ∷ word_32 ∷ []) (decimal s.g ∷ decimal s.id ∷ decimal s.ul ∷ octets_or_dash s.bits ∷ decimal s.dl ∷ []) (refl) (word_of s.g h.0, (id_of s.id h.1, (word_of s.ul h.2, ((s.bits, h.3, refl), (word_of s.dl h.4, tt))))) (λ at c bad. bad)
record_begins (rec.Moved g id) h =
    begins carried_word AfterCarried (carried.Record kind.Moved) (word_32 ∷ identity ∷ []) (decimal g ∷ decimal id ∷ []) (refl) (word_of g h.0, (id_of id h.1, tt)) (λ at c bad. bad)
record_begins (rec.Scgn id g) h =
    begins carried_word AfterCarried (carried.Record kind.Scgn) (BearerPair ∷ []) (pair_text (id, g) ∷ []) (refl) (((id, g), h, refl), tt) (λ at c bad. bad)
record_begins rec.Modrqd h =
    begins carried_word AfterCarried (carried.Record kind.Modrqd) ([]) ([]) (refl) (tt) (λ at c bad. bad)
record_begins (rec.Modcnf g) h =
    begins carried_word AfterCarried (carried.Record kind.Modcnf) (word_32 ∷ []) (decimal g ∷ []) (refl) (word_of g h, tt) (λ at c bad. bad)
record_begins (rec.Modref word) h =
    begins carried_word AfterCarried (carried.Record kind.Modref) (Cause ∷ []) (cause_word word ∷ []) (refl) ((word, refl), tt) (λ at c bad. bad)
record_begins rec.Chgrqd h =
    begins carried_word AfterCarried (carried.Record kind.Chgrqd) ([]) ([]) (refl) (tt) (λ at c bad. bad)
record_begins (rec.Chgcnf plan) h =
    begins carried_word AfterCarried (carried.Record kind.Chgcnf) (plan_kinds (plan_fields plan)) (plan_fields plan) (plan_small plan) (plan_match plan h) (λ at c bad. bad)
record_begins (rec.Chgref word) h =
    begins carried_word AfterCarried (carried.Record kind.Chgref) (Cause ∷ []) (cause_word word ∷ []) (refl) ((word, refl), tt) (λ at c bad. bad)
record_begins rec.Relrqd h =
    begins carried_word AfterCarried (carried.Record kind.Relrqd) ([]) ([]) (refl) (tt) (λ at c bad. bad)
record_begins (rec.Relcnf plan) h =
    begins carried_word AfterCarried (carried.Record kind.Relcnf) (plan_kinds (plan_fields plan)) (plan_fields plan) (plan_small plan) (plan_match plan h) (λ at c bad. bad)

-- and make its text
pub spaced-rec_fields : (r : Rec) → spaced (rec_fields r) ≡ rec_text r
spaced-rec_fields (rec.Reconf plan key) = refl
spaced-rec_fields (rec.Rcomp g) = refl
spaced-rec_fields (rec.Scgf failed) = refl
spaced-rec_fields (rec.Recov id) = refl
spaced-rec_fields (rec.Recovd id) = refl
spaced-rec_fields (rec.Addreq plan key) = refl
spaced-rec_fields (rec.Addack g) = refl
spaced-rec_fields (rec.Addrej g) = refl
spaced-rec_fields (rec.Modreq plan key) = refl
spaced-rec_fields (rec.Modack g) = refl
spaced-rec_fields (rec.Modrej g) = refl
spaced-rec_fields (rec.Recfg g) = refl
spaced-rec_fields (rec.Relreq plan) = refl
spaced-rec_fields (rec.Relack g) = refl
spaced-rec_fields (rec.Relrej g) = refl
spaced-rec_fields (rec.Uecr g) = refl
spaced-rec_fields (rec.Snst s) = refl
spaced-rec_fields (rec.Moved g id) = refl
spaced-rec_fields (rec.Scgn id g) = refl
spaced-rec_fields rec.Modrqd = refl
spaced-rec_fields (rec.Modcnf g) = refl
spaced-rec_fields (rec.Modref word) = refl
spaced-rec_fields rec.Chgrqd = refl
spaced-rec_fields (rec.Chgcnf plan) = refl
spaced-rec_fields (rec.Chgref word) = refl
spaced-rec_fields rec.Relrqd = refl
spaced-rec_fields (rec.Relcnf plan) = refl
