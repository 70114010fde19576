use Rattle.std.proofs.Common.{string_bytes, ◌∙◌, ap}
use Rattle.std.specs.Prelude.{bytes_eq}
use Rattle.dc_top.proofs.Forms.{only_word}
use Rattle.dc_top.proofs.command.is_only.Goals as goal

pub returns-in-len1 : goal.returns-in-len1
returns-in-len1 c =
    only_word string_bytes c.args.words.now c.word-item.result c.eq.result c.args.name.now c.in-len1.len_at_least c.in-len1.len_below c.word-item.is
    (c.eq.ensures ∙ ap (λ s. bytes_eq s c.args.name.now) c.as_str.ensures.value)
