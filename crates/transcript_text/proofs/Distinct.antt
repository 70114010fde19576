-- No two words are written alike.
use Rattle.std.proofs.Common.{◌≡◌, ℕ, List, [], ◌∷◌, true, refl, sym, ap, ◌∙◌}
use Rattle.std.specs.Prelude.{if◌then◌else◌}
use Rattle.std.specs.Str.{bytes_eq}
use Rattle.dc_base.specs.declared.records.RecKind.TheVariants as kind
use Rattle.transcript_text.specs.declared.words.Mark.{Mark}
use Rattle.transcript_text.specs.declared.words.Mark.TheVariants as mark
use Rattle.transcript_text.specs.declared.words.Verdict.{Verdict}
use Rattle.transcript_text.specs.declared.words.Verdict.TheVariants as verdict
use Rattle.transcript_text.specs.declared.words.Consequence.{Consequence}
use Rattle.transcript_text.specs.declared.words.Consequence.TheVariants as consequence
use Rattle.transcript_text.specs.declared.words.Carried.{Carried}
use Rattle.transcript_text.specs.declared.words.Carried.TheVariants as carried
use Rattle.transcript_text.specs.Words.{mark_word, verdict_word, consequence_word, carried_word}
use Rattle.transcript_text.proofs.Free.{is_free}

-- the first of the values whose word this is
abbrev find : {X : Type 0} → (X → List ℕ) → List X → X → List ℕ → X
find word [] d f = d
find word (x ∷ xs) d f = if bytes_eq (word x) f then x else find word xs d f

-- the value of a word
abbrev mark_from : List ℕ → Mark
mark_from f = find mark_word (mark.Event ∷ mark.Answer ∷ []) mark.Consequence f

mark_back : (w : Mark) → mark_from (mark_word w) ≡ w
mark_back mark.Event = refl
mark_back mark.Answer = refl
mark_back mark.Consequence = refl

pub same_mark : (a b : Mark) → mark_word a ≡ mark_word b → a ≡ b
same_mark a b e = sym (mark_back a) ∙ (ap mark_from e ∙ mark_back b)

pub mark_free : (w : Mark) → is_free 32 (mark_word w) ≡ true
mark_free mark.Event = refl
mark_free mark.Answer = refl
mark_free mark.Consequence = refl

-- the value of a word
abbrev verdict_from : List ℕ → Verdict
verdict_from f = find verdict_word (verdict.Ok ∷ []) verdict.No f

verdict_back : (w : Verdict) → verdict_from (verdict_word w) ≡ w
verdict_back verdict.Ok = refl
verdict_back verdict.No = refl

pub same_verdict : (a b : Verdict) → verdict_word a ≡ verdict_word b → a ≡ b
same_verdict a b e = sym (verdict_back a) ∙ (ap verdict_from e ∙ verdict_back b)

pub verdict_free : (w : Verdict) → is_free 32 (verdict_word w) ≡ true
verdict_free verdict.Ok = refl
verdict_free verdict.No = refl

-- the value of a word
abbrev consequence_from : List ℕ → Consequence
consequence_from f = find consequence_word (consequence.Send ∷ consequence.Begin ∷ consequence.Join ∷ consequence.Leave ∷ consequence.Give ∷ consequence.Own ∷ consequence.Set ∷ consequence.Unset ∷ consequence.Up ∷ consequence.Freed ∷ consequence.Confirmed ∷ consequence.Refused ∷ consequence.Done ∷ []) consequence.Rejected f

consequence_back : (w : Consequence) → consequence_from (consequence_word w) ≡ w
consequence_back consequence.Send = refl
consequence_back consequence.Begin = refl
consequence_back consequence.Join = refl
consequence_back consequence.Leave = refl
consequence_back consequence.Give = refl
consequence_back consequence.Own = refl
consequence_back consequence.Set = refl
consequence_back consequence.Unset = refl
consequence_back consequence.Up = refl
consequence_back consequence.Freed = refl
consequence_back consequence.Confirmed = refl
consequence_back consequence.Refused = refl
consequence_back consequence.Done = refl
consequence_back consequence.Rejected = refl

pub same_consequence : (a b : Consequence) → consequence_word a ≡ consequence_word b → a ≡ b
same_consequence a b e = sym (consequence_back a) ∙ (ap consequence_from e ∙ consequence_back b)

pub consequence_free : (w : Consequence) → is_free 32 (consequence_word w) ≡ true
consequence_free consequence.Send = refl
consequence_free consequence.Begin = refl
consequence_free consequence.Join = refl
consequence_free consequence.Leave = refl
consequence_free consequence.Give = refl
consequence_free consequence.Own = refl
consequence_free consequence.Set = refl
consequence_free consequence.Unset = refl
consequence_free consequence.Up = refl
consequence_free consequence.Freed = refl
consequence_free consequence.Confirmed = refl
consequence_free consequence.Refused = refl
consequence_free consequence.Done = refl
consequence_free consequence.Rejected = refl

-- the value of a word
abbrev carried_from : List ℕ → Carried
carried_from f = find carried_word (carried.Data ∷ carried.Control ∷ carried.Ack ∷ carried.Packet ∷ carried.Sdu ∷ carried.End ∷ carried.Told ∷ carried.Record kind.Reconf ∷ carried.Record kind.Rcomp ∷ carried.Record kind.Scgf ∷ carried.Record kind.Recov ∷ carried.Record kind.Recovd ∷ carried.Record kind.Addreq ∷ carried.Record kind.Addack ∷ carried.Record kind.Addrej ∷ carried.Record kind.Modreq ∷ carried.Record kind.Modack ∷ carried.Record kind.Modrej ∷ carried.Record kind.Recfg ∷ carried.Record kind.Relreq ∷ carried.Record kind.Relack ∷ carried.Record kind.Relrej ∷ carried.Record kind.Uecr ∷ carried.Record kind.Snst ∷ carried.Record kind.Moved ∷ carried.Record kind.Scgn ∷ carried.Record kind.Modrqd ∷ carried.Record kind.Modcnf ∷ carried.Record kind.Modref ∷ carried.Record kind.Chgrqd ∷ carried.Record kind.Chgcnf ∷ carried.Record kind.Chgref ∷ carried.Record kind.Relrqd ∷ []) (carried.Record kind.Relcnf) f

carried_back : (w : Carried) → carried_from (carried_word w) ≡ w
carried_back carried.Data = refl
carried_back carried.Control = refl
carried_back carried.Ack = refl
carried_back carried.Packet = refl
carried_back carried.Sdu = refl
carried_back carried.End = refl
carried_back carried.Told = refl
carried_back (carried.Record kind.Reconf) = refl
carried_back (carried.Record kind.Rcomp) = refl
carried_back (carried.Record kind.Scgf) = refl
carried_back (carried.Record kind.Recov) = refl
carried_back (carried.Record kind.Recovd) = refl
carried_back (carried.Record kind.Addreq) = refl
carried_back (carried.Record kind.Addack) = refl
carried_back (carried.Record kind.Addrej) = refl
carried_back (carried.Record kind.Modreq) = refl
carried_back (carried.Record kind.Modack) = refl
carried_back (carried.Record kind.Modrej) = refl
carried_back (carried.Record kind.Recfg) = refl
carried_back (carried.Record kind.Relreq) = refl
carried_back (carried.Record kind.Relack) = refl
carried_back (carried.Record kind.Relrej) = refl
carried_back (carried.Record kind.Uecr) = refl
carried_back (carried.Record kind.Snst) = refl
carried_back (carried.Record kind.Moved) = refl
carried_back (carried.Record kind.Scgn) = refl
carried_back (carried.Record kind.Modrqd) = refl
carried_back (carried.Record kind.Modcnf) = refl
carried_back (carried.Record kind.Modref) = refl
carried_back (carried.Record kind.Chgrqd) = refl
carried_back (carried.Record kind.Chgcnf) = refl
carried_back (carried.Record kind.Chgref) = refl
carried_back (carried.Record kind.Relrqd) = refl
carried_back (carried.Record kind.Relcnf) = refl

pub same_carried : (a b : Carried) → carried_word a ≡ carried_word b → a ≡ b
same_carried a b e = sym (carried_back a) ∙ (ap carried_from e ∙ carried_back b)

pub carried_free : (w : Carried) → is_free 32 (carried_word w) ≡ true
carried_free carried.Data = refl
carried_free carried.Control = refl
carried_free carried.Ack = refl
carried_free carried.Packet = refl
carried_free carried.Sdu = refl
carried_free carried.End = refl
carried_free carried.Told = refl
carried_free (carried.Record kind.Reconf) = refl
carried_free (carried.Record kind.Rcomp) = refl
carried_free (carried.Record kind.Scgf) = refl
carried_free (carried.Record kind.Recov) = refl
carried_free (carried.Record kind.Recovd) = refl
carried_free (carried.Record kind.Addreq) = refl
carried_free (carried.Record kind.Addack) = refl
carried_free (carried.Record kind.Addrej) = refl
carried_free (carried.Record kind.Modreq) = refl
carried_free (carried.Record kind.Modack) = refl
carried_free (carried.Record kind.Modrej) = refl
carried_free (carried.Record kind.Recfg) = refl
carried_free (carried.Record kind.Relreq) = refl
carried_free (carried.Record kind.Relack) = refl
carried_free (carried.Record kind.Relrej) = refl
carried_free (carried.Record kind.Uecr) = refl
carried_free (carried.Record kind.Snst) = refl
carried_free (carried.Record kind.Moved) = refl
carried_free (carried.Record kind.Scgn) = refl
carried_free (carried.Record kind.Modrqd) = refl
carried_free (carried.Record kind.Modcnf) = refl
carried_free (carried.Record kind.Modref) = refl
carried_free (carried.Record kind.Chgrqd) = refl
carried_free (carried.Record kind.Chgcnf) = refl
carried_free (carried.Record kind.Chgref) = refl
carried_free (carried.Record kind.Relrqd) = refl
carried_free (carried.Record kind.Relcnf) = refl
