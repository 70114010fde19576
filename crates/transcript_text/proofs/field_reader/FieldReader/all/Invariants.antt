-- What was read and what is left are all fields, and a fault of what is left is one of all.
use Rattle.std.proofs.Common.{◌≡◌, ◌++◌, map, length}
use Rattle.transcript_text.specs.Grammar.{each}
use Rattle.transcript_text.specs.Places.{IsFaultAt}
use Rattle.transcript_text.specs.Ranges.{Every}
use Rattle.transcript_text.specs.declared.fault.LineFault.{LineFault}
use Rattle.transcript_text.proofs.field_reader.FieldReader.all.Given as goal

abbrev pub invariant-loop-alloc : goal.invariant-loop-alloc
invariant-loop-alloc g l = record {
  read : l.fn.self.fields ≡ map g.A.Spelled.word l.values ++ l.self.fields;
  range : Every g.A.Spelled.in_range l.values;
  fault : (f : LineFault) → IsFaultAt (each g.A.Spelled.kind l.self.fields) l.self f → IsFaultAt (each g.A.Spelled.kind l.fn.self.fields) l.fn.self f;
}

abbrev pub decreases-loop-alloc : goal.decreases-loop-alloc
decreases-loop-alloc g l = length l.self.fields
