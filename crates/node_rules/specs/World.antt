-- The four nodes and what stands on the links between them, one event after another.
use Rattle.std.specs.Prelude.{List, None, Option, Some, [], find, fold, length, nat_lt, remove, replicate, slice_index_or, slice_set, ℕ, ◌++◌, ◌∷◌}
use Rattle.dc_base.specs.Links.{all_links, link_number}
use Rattle.dc_base.specs.declared.events.Header.{Header}
use Rattle.dc_base.specs.declared.events.Line.{Line}
use Rattle.dc_base.specs.declared.flights.Flight.{Flight}
use Rattle.dc_base.specs.declared.nodes.LinkId.{LinkId}
use Rattle.dc_base.specs.declared.nodes.Node.TheVariants.{A, B}
use Rattle.transcript.specs.Transcript.{sends}
use Rattle.node_rules.specs.Choices.{Send}
use Rattle.node_rules.specs.Master.{MasterNode, new_master}
use Rattle.node_rules.specs.Secondary.{SecondNode, new_second}
use Rattle.node_rules.specs.Terminal.{TerminalNode, new_terminal}

-- the flights under way, in order on each link, by the links' numbers (this product's own)
abbrev pub Links : Type 0
Links = List (List Flight)

-- nothing is under way (this product's own)
abbrev pub no_links : Links
no_links = replicate 64 []

-- the terminal, the master, the secondary nodes, and the flights under way (this product's own)
pub record World : Type 0 where
  pub terminal : TerminalNode
  pub master : MasterNode
  pub a : SecondNode
  pub b : SecondNode
  pub links : Links

-- nothing happened yet (this product's own)
abbrev pub new_world : Header → World
new_world h = record {
  terminal = new_terminal h.alg;
  master = new_master h.alg h.used h.root;
  a = new_second h.alg A;
  b = new_second h.alg B;
  links = no_links;
}

-- ---- the links

-- the flights that stand on a link, in order (this product's own)
abbrev pub flights_on : LinkId → Links → List Flight
flights_on l links = slice_index_or links (link_number l) []

-- these flights stand on the link (this product's own)
abbrev pub with_flights : LinkId → List Flight → Links → Links
with_flights l flights links = slice_set links (link_number l) flights

-- a flight is put at the end of a link (this product's own)
abbrev pub with_send : Links → Send → Links
with_send links s = with_flights s.0 (flights_on s.0 links ++ s.1 ∷ []) links

-- the flight at a place of a link, from 0, is taken away, if there is such a place (this product's own)
abbrev pub without : Option (LinkId × ℕ) → Links → Links
without None links = links
without (Some (l, i)) links = with_flights l (remove (flights_on l links) i) links

-- what stands on the links after an event: without the flight taken, and with what was sent, in order (this product's own)
abbrev pub links_after : Option (LinkId × ℕ) → List Line → Links → Links
links_after place lines links = fold with_send (without place links) (sends lines)

-- the first link, in their order, on which a flight stands (this product's own)
abbrev pub first_loaded : Links → Option LinkId
first_loaded links = find (λ l. nat_lt 0 (length (flights_on l links))) all_links
