-- The PDUs that were sent on a link, of one bearer and generation, by their numbers there (TS 38.323, 5.2.1; TS 38.425, 5.4.1; the
-- numbers on a leg are this product's own).
use Rattle.std.specs.Prelude.{List, None, Option, Some, [], false, if◌then◌else◌, length, map, ℕ, ⊤, ◌&&◌, ◌+◌, ◌++◌, ◌==◌, ◌∷◌, ◌≡◌}
use Rattle.std.specs.List.{flat_map}
use Rattle.dc_base.specs.Links.{is_same_link, is_tunnel}
use Rattle.dc_base.specs.declared.flights.Flight.{Flight}
use Rattle.dc_base.specs.declared.nodes.LinkId.{LinkId}
use Rattle.claims.specs.Past.{Past}
use Rattle.claims.specs.Views.{Pdu, pdu_of}
use Rattle.nr_u.specs.declared.tunnel.outbound.Sent.{Sent}
use Rattle.node_rules.specs.Choices.{Send}
use Rattle.run_control.specs.Links.{sent_on}

-- a PDU that was sent, with its number
abbrev pub Numbered : Type 0
Numbered = ℕ × Sent

-- a PDU as it was sent, if it has a number
abbrev pub with_number : Pdu → Option ℕ → List Numbered
with_number u None = []
with_number u (Some num) = (num, record { count = u.tag; repeat = u.is_repeat }) ∷ []

-- if it is of this bearer and generation
abbrev pub numbered_of : ℕ → ℕ → Pdu → List Numbered
numbered_of id g u = if (u.id == id) && (u.g == g) then with_number u u.num else []

-- ---- by the past of the claims

-- a PDU that was sent on this link
abbrev pub put_in : LinkId → ℕ → ℕ → LinkId × Pdu → List Numbered
put_in l id g s = if is_same_link l s.0 then numbered_of id g s.1 else []

-- those among PDUs of which the latest is first, in the order in which they were sent
abbrev pub puts_in : LinkId → ℕ → ℕ → List (LinkId × Pdu) → List Numbered
puts_in l id g [] = []
puts_in l id g (s ∷ ss) = puts_in l id g ss ++ put_in l id g s

-- the PDUs that were sent on a link, by their numbers
abbrev pub history : Past → LinkId → ℕ → ℕ → List Sent
history p l id g = map (λ (x : Numbered). x.1) (puts_in l id g p.pdus)

-- the COUNTs of the PDUs that were sent on a leg, by their numbers; a control PDU has none
abbrev pub air_history : Past → LinkId → ℕ → ℕ → List (Option ℕ)
air_history p l id g = map (λ (s : Sent). s.count) (history p l id g)

-- a PDU that was sent in a tunnel
abbrev pub tun_put_in : ℕ → ℕ → LinkId × Pdu → List Numbered
tun_put_in id g s = if is_tunnel s.0.class then numbered_of id g s.1 else []

-- those among PDUs of which the latest is first
abbrev pub tun_puts_in : ℕ → ℕ → List (LinkId × Pdu) → List Numbered
tun_puts_in id g [] = []
tun_puts_in id g (s ∷ ss) = tun_puts_in id g ss ++ tun_put_in id g s

-- the PDUs that were sent in the tunnel of a bearer, by their numbers: COUNT and repeat mark of each
abbrev pub tun_history : Past → ℕ → ℕ → List Sent
tun_history p id g = map (λ (x : Numbered). x.1) (tun_puts_in id g p.pdus)

-- ---- by what is sent

-- if a flight carries a PDU
abbrev pub numbered_if : ℕ → ℕ → Option Pdu → List Numbered
numbered_if id g None = []
numbered_if id g (Some u) = numbered_of id g u

-- the numbered PDUs of flights, of a bearer and generation
abbrev pub puts_of : ℕ → ℕ → List Flight → List Numbered
puts_of id g fs = flat_map (λ f. numbered_if id g (pdu_of f)) fs

-- of those that sends put on a link
abbrev pub puts_on : LinkId → ℕ → ℕ → List Send → List Numbered
puts_on l id g sends = puts_of id g (sent_on l sends)

-- ---- in order

-- the numbers count on from this one
abbrev pub IsNumberedFrom : ℕ → List Numbered → Type 0
IsNumberedFrom n [] = ⊤
IsNumberedFrom n (x ∷ xs) = (x.0 ≡ n) × IsNumberedFrom (n + 1) xs

-- PDUs with the numbers from this one on
abbrev pub counted_from : ℕ → List Sent → List Numbered
counted_from n [] = []
counted_from n (s ∷ ss) = (n, s) ∷ counted_from (n + 1) ss

-- a leg or a tunnel that had these PDUs has those then: what is sent on the link is what it has more, under the next numbers
pub record Continues (l : LinkId) (id g : ℕ) (had has : List Sent) (sends : List Send) : Type 0 where
  pub more : List Sent
  pub puts : puts_on l id g sends ≡ counted_from (length had) more
  pub grown : has ≡ had ++ more

-- the sends put on a link exactly these, under the numbers from 0 on
abbrev pub ArePut : List Send → LinkId → ℕ → ℕ → List Sent → Type 0
ArePut sent l id g these = puts_on l id g sent ≡ counted_from 0 these

-- what is sent after other sends has on each link, of each bearer and generation, the next numbers
abbrev pub FollowOn : List Send → List Send → Type 0
FollowOn sent more = (l : LinkId) (id g : ℕ) → IsNumberedFrom (length (puts_on l id g sent)) (puts_on l id g more)

-- nothing of this bearer and generation is sent
abbrev pub NoneOf : ℕ → ℕ → List Send → Type 0
NoneOf id g sends = (l : LinkId) → puts_on l id g sends ≡ []

-- nothing of another is sent
abbrev pub OnlyOf : ℕ → ℕ → List Send → Type 0
OnlyOf id g sends = (l : LinkId) (i h : ℕ) → ((id == i) && (g == h)) ≡ false → puts_on l i h sends ≡ []
