-- The words that decide how a line of a transcript goes on.
use Rattle.std.specs.Prelude.{ℕ, List, codes}
use Rattle.dc_base.specs.declared.records.RecKind.{RecKind}
use Rattle.dc_base.specs.declared.records.RecKind.TheVariants as kind
use Rattle.transcript_text.specs.declared.words.Mark.{Mark}
use Rattle.transcript_text.specs.declared.words.Mark.TheVariants as mark
use Rattle.transcript_text.specs.declared.words.Verdict.{Verdict}
use Rattle.transcript_text.specs.declared.words.Verdict.TheVariants as verdict
use Rattle.transcript_text.specs.declared.words.Consequence.{Consequence}
use Rattle.transcript_text.specs.declared.words.Consequence.TheVariants as consequence
use Rattle.transcript_text.specs.declared.words.Carried.{Carried}
use Rattle.transcript_text.specs.declared.words.Carried.TheVariants as carried

-- what a line begins with
abbrev pub mark_word : Mark → List ℕ
mark_word mark.Event = codes ">"
mark_word mark.Answer = codes "="
mark_word mark.Consequence = codes "-"

-- the first word of an answer
abbrev pub verdict_word : Verdict → List ℕ
verdict_word verdict.Ok = codes "ok"
verdict_word verdict.No = codes "no"

-- the first word of a consequence
abbrev pub consequence_word : Consequence → List ℕ
consequence_word consequence.Send = codes "send"
consequence_word consequence.Begin = codes "begin"
consequence_word consequence.Join = codes "join"
consequence_word consequence.Leave = codes "leave"
consequence_word consequence.Give = codes "give"
consequence_word consequence.Own = codes "own"
consequence_word consequence.Set = codes "set"
consequence_word consequence.Unset = codes "unset"
consequence_word consequence.Up = codes "up"
consequence_word consequence.Freed = codes "freed"
consequence_word consequence.Confirmed = codes "confirmed"
consequence_word consequence.Refused = codes "refused"
consequence_word consequence.Done = codes "done"
consequence_word consequence.Rejected = codes "rejected"

-- the name of a record
abbrev pub record_word : RecKind → List ℕ
record_word kind.Reconf = codes "reconf"
record_word kind.Rcomp = codes "rcomp"
record_word kind.Scgf = codes "scgf"
record_word kind.Recov = codes "recov"
record_word kind.Recovd = codes "recovd"
record_word kind.Addreq = codes "addreq"
record_word kind.Addack = codes "addack"
record_word kind.Addrej = codes "addrej"
record_word kind.Modreq = codes "modreq"
record_word kind.Modack = codes "modack"
record_word kind.Modrej = codes "modrej"
record_word kind.Recfg = codes "recfg"
record_word kind.Relreq = codes "relreq"
record_word kind.Relack = codes "relack"
record_word kind.Relrej = codes "relrej"
record_word kind.Uecr = codes "uecr"
record_word kind.Snst = codes "snst"
record_word kind.Moved = codes "moved"
record_word kind.Scgn = codes "scgn"
record_word kind.Modrqd = codes "modrqd"
record_word kind.Modcnf = codes "modcnf"
record_word kind.Modref = codes "modref"
record_word kind.Chgrqd = codes "chgrqd"
record_word kind.Chgcnf = codes "chgcnf"
record_word kind.Chgref = codes "chgref"
record_word kind.Relrqd = codes "relrqd"
record_word kind.Relcnf = codes "relcnf"

-- the first word of a flight
abbrev pub carried_word : Carried → List ℕ
carried_word carried.Data = codes "pdu"
carried_word carried.Control = codes "ctl"
carried_word carried.Ack = codes "ack"
carried_word carried.Packet = codes "gtp"
carried_word carried.Sdu = codes "sdu"
carried_word carried.End = codes "end"
carried_word carried.Told = codes "told"
carried_word (carried.Record k) = record_word k
