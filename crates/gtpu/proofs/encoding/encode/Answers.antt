use Rattle.std.proofs.Common.{◌≡◌, ℕ, List, ◌++◌, ap, ◌∙◌}
use Rattle.gtpu.specs.Content.{view}
use Rattle.gtpu.specs.Spelling.{spelling}
use Rattle.gtpu.proofs.Again.{read_again}
use Rattle.gtpu.proofs.Reading.{packet_is_read}
use Rattle.gtpu.proofs.encoding.encode.Goals as goal

pub returns-clause-read_again : goal.returns-clause-read_again
returns-clause-read_again c =
    let h = c.in_ok-write_packet.ensures in
    let whole : c.write_packet.new.octets ≡ spelling (view c.args.p.now) = h.0 ∙ ap (λ (o : List ℕ). o ++ spelling (view c.args.p.now)) (c.from_vec-octets.ensures ∙ c.in_ok-with_capacity.ensures.items) in
    read_again (view c.args.p.now) c.write_packet.new.octets whole h.1 c.requires.length c.requires.container h.2 c.requires.number

pub returns-clause-decoded_again : goal.returns-clause-decoded_again
returns-clause-decoded_again c = packet_is_read c.write_packet.new.octets (view c.args.p.now) (returns-clause-read_again c)
