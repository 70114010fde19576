use Rattle.std.proofs.Common.{◌≡◌, ◌++◌, ◌∷◌, ◌∙◌, [], ap, false, sym, true}
use Rattle.std.specs.List.{list_any}
use Rattle.node_rules.specs.Lines.{is_end}
use Rattle.dc_network.proofs.Splitting.{any-push_none, any-push_some, notes_after-first, notes_after-none, notes_after-push, notes_before-kept, notes_before-push}
use Rattle.dc_network.proofs.outcome_lines.notes_apart.Goals as goal

pub loop-note-preserved-in-Continue-1 : goal.loop-note-preserved-in-Continue-1
loop-note-preserved-in-Continue-1 c =
    let some : list_any is_end c.loop-note.yielded ≡ true = sym c.loop-note.invariant.flag ∙ c.if-ended.true in
    record {
      flag = c.if-ended.true ∙ sym (any-push_some is_end c.loop-note.yielded c.in-Some.note some);
      front = c.loop-note.invariant.front ∙ sym (notes_before-kept c.loop-note.yielded c.in-Some.note some);
      back = c.in_ok-push.ensures.items ∙ ap (λ zs. zs ++ c.in-Some.note ∷ []) c.loop-note.invariant.back
          ∙ sym (notes_after-push c.loop-note.yielded c.in-Some.note some);
    }

pub loop-note-preserved : goal.loop-note-preserved
loop-note-preserved c =
    let none : list_any is_end c.loop-note.yielded ≡ false = sym c.loop-note.invariant.flag ∙ c.if-ended.false in
    record {
      flag = c.is_end-ended.ensures ∙ sym (any-push_none is_end c.loop-note.yielded c.in-Some.note none);
      front = c.in_ok-push-2.ensures.items ∙ ap (λ zs. zs ++ c.in-Some.note ∷ []) c.loop-note.invariant.front
          ∙ sym (notes_before-push c.loop-note.yielded c.in-Some.note none);
      back = c.loop-note.invariant.back ∙ notes_after-none c.loop-note.yielded none
          ∙ sym (notes_after-first c.loop-note.yielded c.in-Some.note none);
    }
