-- What an entry sends has its stamp.
use Rattle.std.proofs.Common.{List, [], refl, ℕ, ◌∷◌, ◌≡◌}
use Rattle.std.specs.List.{AllByRecursion}
use Rattle.dc_base.specs.Nodes.{node_number}
use Rattle.dc_base.specs.declared.events.Line.{Line}
use Rattle.dc_base.specs.declared.events.Line.TheVariants as line
use Rattle.journals.proofs.OnEach.{each_both}
use Rattle.journals.specs.Journals.{Stamped, outputs}
use Rattle.journals.specs.Messages.{messages}
use Rattle.journals.specs.declared.entries.JournalEntry.{JournalEntry}
use Rattle.journals.specs.declared.entries.Message.{Message}

pub messages_stamped : (s : ℕ) (lines : List Line) → AllByRecursion (λ (m : Message). m.stamp ≡ s) (messages s lines)
messages_stamped s [] = tt
messages_stamped s (line.Send l f ∷ ls) = (refl, messages_stamped s ls)
messages_stamped s (line.Note n ∷ ls) = messages_stamped s ls
messages_stamped s (line.Event e ∷ ls) = messages_stamped s ls
messages_stamped s (line.Answer a ∷ ls) = messages_stamped s ls

-- with its node
pub sends_stamped : (n : ℕ) (e : JournalEntry) → Stamped n e → AllByRecursion (λ (m : Message). (node_number m.link.from ≡ n) × (m.stamp ≡ e.stamp)) (outputs e)
sends_stamped n e is = each_both (λ (m : Message). node_number m.link.from ≡ n) (λ (m : Message). m.stamp ≡ e.stamp) (outputs e) is.sends (messages_stamped e.stamp e.lines)
