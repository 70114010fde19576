-- What a node holds after a bearer is put in its place, and how that follows the transcript.
use Rattle.std.proofs.Common.{ℕ, zero, suc, ◌≡◌, ◌+◌, ◌-◌, ◌<◌, ◌≤◌, ◌==◌, true, false, List, [], ◌∷◌, Option, Some, None, length, take, refl, sym, ap, ◌∙◌, subst, arith, inl, inr}
use Rattle.std.proofs.lemmas.List.{get_or-set_same, get_or-set_other, length-set, length-take-le}
use Rattle.std.proofs.lemmas.Option.{same_Some, none-some}
use Rattle.std.proofs.lemmas.Bool.{cases_Bool, eq-eqb, eqb-true, cond-true}
use Rattle.std.specs.Prelude.{Contains}
use Rattle.std.specs.Option.{option_map}
use Rattle.dc_base.specs.declared.nodes.Dir.{Dir}
use Rattle.dc_base.specs.declared.nodes.Dir.TheVariants.{Ul, Dl}
use Rattle.transcript.specs.Transcript.{Entry}
use Rattle.transcript.specs.Bearers.{Established, established, latest, at_terminal, is_set, submitted, handed, numbered, change, open_command, at_submitter, unless_opening}
use Rattle.transcript.proofs.Establishing.{latest_there}
use Rattle.master_runs.specs.Entities.{Entities, Table, bearer_in, with_bearer}
use Rattle.master_runs.specs.Control.{Nodes}
use Rattle.master_runs.specs.Links.{Links}
use Rattle.master_runs.proofs.Sound.{or_fresh, half, sender_table, receiver_table, IsServed, IsTabled}
use Rattle.master_runs.proofs.Directions.{Apart, other_id}
use Rattle.master_runs.specs.Plane.{other}

-- the place has what was put there
pub bearer_in-same : (table : Table) (id : ℕ) (x : Option Entities) → id < length table → bearer_in (with_bearer table id x) id ≡ x
bearer_in-same table id x small = get_or-set_same table id x None small

-- and any other what it had
pub bearer_in-other : (table : Table) (id k : ℕ) (x : Option Entities) → (id == k) ≡ false → bearer_in (with_bearer table id x) k ≡ bearer_in table k
bearer_in-other table id k x apart =
    get_or-set_other table id k x None (λ same. let is : (id == k) ≡ true = eq-eqb id k (sym same) in absurd cc)

-- the table stays as long
pub length-with_bearer : (table : Table) (id : ℕ) (x : Option Entities) → length (with_bearer table id x) ≡ length table
length-with_bearer table id x = length-set table id x

-- the nodes with another table at the node that sends, or receives, in this direction
abbrev pub with_sender : Dir → Nodes → Table → Nodes
with_sender Dl s table = record s { master = table }
with_sender Ul s table = record s { terminal = table }

abbrev pub with_receiver : Dir → Nodes → Table → Nodes
with_receiver Dl s table = record s { terminal = table }
with_receiver Ul s table = record s { master = table }

-- the nodes with the table that they have
pub same_nodes : (d : Dir) (s : Nodes) → with_sender d s (sender_table d s) ≡ s
same_nodes Dl s = refl
same_nodes Ul s = refl

-- an identity that has a bearer is within the table
pub within_table : (table : Table) (id : ℕ) (e : Entities) → bearer_in table id ≡ Some e → id < length table
within_table [] id e at = absurd (cc)
within_table (x ∷ xs) zero e at = omega arith
within_table (x ∷ xs) (suc id) e at = let rest = within_table xs id e at in omega arith

-- what a node holds of a bearer that is in its table
pub half_at : (b : Established) (table : Table) (id : ℕ) (e : Entities) → bearer_in table id ≡ Some e → b.id ≡ id → half b table ≡ e
half_at b table id e at same = ap (λ k. or_fresh b (bearer_in table k)) same ∙ ap (or_fresh b) at

-- what it holds of one that was put into its table
pub half_here : (b : Established) (table : Table) (id : ℕ) (e e' : Entities) → bearer_in table id ≡ Some e → b.id ≡ id → half b (with_bearer table id (Some e')) ≡ e'
half_here b table id e e' at same = half_at b (with_bearer table id (Some e')) id e' (bearer_in-same table id (Some e') (within_table table id e at)) same

-- what it holds of any other is as before
pub half_other : (b : Established) (table : Table) (id : ℕ) (x : Option Entities) → (id == b.id) ≡ false → half b (with_bearer table id x) ≡ half b table
half_other b table id x apart = ap (or_fresh b) (bearer_in-other table id b.id x apart)

-- what has the same value of the new bearer as of the old is as before at every place
pub place_same : {A : Type 0} (g : Option Entities → A) (table : Table) (id : ℕ) (e e' : Entities) → bearer_in table id ≡ Some e → g (Some e') ≡ g (Some e)
    → (k : ℕ) → g (bearer_in (with_bearer table id (Some e')) k) ≡ g (bearer_in table k)
place_same g table id e e' at same k =
    elim (cases_Bool (id == k)) [
      | inl here ↦
          subst (λ j. g (bearer_in (with_bearer table id (Some e')) j) ≡ g (bearer_in table j)) (eqb-true id k here)
          (ap g (bearer_in-same table id (Some e') (within_table table id e at)) ∙ same ∙ sym (ap g at))
      | inr there ↦ ap g (bearer_in-other table id k (Some e') there)
    ]

-- ---- nodes with one changed place

-- the nodes with another bearer at the node that sends, or receives, in this direction
abbrev pub sender_put : Dir → Nodes → ℕ → Entities → Nodes
sender_put d s id e = with_sender d s (with_bearer (sender_table d s) id (Some e))

abbrev pub receiver_put : Dir → Nodes → ℕ → Entities → Nodes
receiver_put d s id e = with_receiver d s (with_bearer (receiver_table d s) id (Some e))

-- what has the same value of the new bearer as of the old is as before at every place of both
pub sender_put_same : {A : Type 0} (g : Option Entities → A) (d : Dir) (s : Nodes) (id : ℕ) (e e' : Entities) → bearer_in (sender_table d s) id ≡ Some e → g (Some e') ≡ g (Some e)
    → (k : Dir) (i : ℕ) → g (bearer_in (sender_table k (sender_put d s id e')) i) ≡ g (bearer_in (sender_table k s) i)
sender_put_same g Dl s id e e' at same Dl i = place_same g s.master id e e' at same i
sender_put_same g Dl s id e e' at same Ul i = refl
sender_put_same g Ul s id e e' at same Dl i = refl
sender_put_same g Ul s id e e' at same Ul i = place_same g s.terminal id e e' at same i

-- so it is with one at the node that receives, which sends in the other direction
pub receiver_put_same : {A : Type 0} (g : Option Entities → A) (d : Dir) (s : Nodes) (id : ℕ) (e e' : Entities) → bearer_in (receiver_table d s) id ≡ Some e → g (Some e') ≡ g (Some e)
    → (k : Dir) (i : ℕ) → g (bearer_in (sender_table k (receiver_put d s id e')) i) ≡ g (bearer_in (sender_table k s) i)
receiver_put_same g Dl s id e e' at same k i = sender_put_same g Ul s id e e' at same k i
receiver_put_same g Ul s id e e' at same k i = sender_put_same g Dl s id e e' at same k i

-- receiving sides are as before where the bearer keeps its own
pub sender_put_rx : (d : Dir) (s : Nodes) (id : ℕ) (e e' : Entities) → bearer_in (sender_table d s) id ≡ Some e → e'.rx ≡ e.rx
    → (b : Established) (k : Dir) → (half b (receiver_table k (sender_put d s id e'))).rx ≡ (half b (receiver_table k s)).rx
sender_put_rx d s id e e' at same b Dl = sender_put_same (λ o. (or_fresh b o).rx) d s id e e' at same Ul b.id
sender_put_rx d s id e e' at same b Ul = sender_put_same (λ o. (or_fresh b o).rx) d s id e e' at same Dl b.id

-- the bearer is there then
pub sender_put_here : (d : Dir) (s : Nodes) (b : Established) (id : ℕ) (e e' : Entities) → bearer_in (sender_table d s) id ≡ Some e → b.id ≡ id → half b (sender_table d (sender_put d s id e')) ≡ e'
sender_put_here Dl s b id e e' at same = half_here b s.master id e e' at same
sender_put_here Ul s b id e e' at same = half_here b s.terminal id e e' at same

-- so it is at the node that receives
pub receiver_put_here : (d : Dir) (s : Nodes) (b : Established) (id : ℕ) (e e' : Entities) → bearer_in (receiver_table d s) id ≡ Some e → b.id ≡ id → half b (receiver_table d (receiver_put d s id e')) ≡ e'
receiver_put_here Dl s b id e e' at same = half_here b s.terminal id e e' at same
receiver_put_here Ul s b id e e' at same = half_here b s.master id e e' at same

-- the sending side of every other direction and identity is as before
pub sender_put_apart : (d : Dir) (s : Nodes) (id : ℕ) (e : Entities) (b : Established) (k : Dir) → Apart d id k b.id → half b (sender_table k (sender_put d s id e)) ≡ half b (sender_table k s)
sender_put_apart Dl s id e b Dl apart = half_other b s.master id (Some e) (other_id Dl id b.id apart)
sender_put_apart Dl s id e b Ul apart = refl
sender_put_apart Ul s id e b Dl apart = refl
sender_put_apart Ul s id e b Ul apart = half_other b s.terminal id (Some e) (other_id Ul id b.id apart)

-- and so is the receiving side
pub receiver_put_apart : (d : Dir) (s : Nodes) (id : ℕ) (e : Entities) (b : Established) (k : Dir) → Apart d id k b.id → half b (receiver_table k (receiver_put d s id e)) ≡ half b (receiver_table k s)
receiver_put_apart Dl s id e b Dl apart = half_other b s.terminal id (Some e) (other_id Dl id b.id apart)
receiver_put_apart Dl s id e b Ul apart = refl
receiver_put_apart Ul s id e b Dl apart = refl
receiver_put_apart Ul s id e b Ul apart = half_other b s.master id (Some e) (other_id Ul id b.id apart)

-- ---- the two ends of a leg

-- the node that sends in a direction receives in the other
pub turned : (d : Dir) (s : Nodes) → receiver_table (other d) s ≡ sender_table d s
turned Dl s = refl
turned Ul s = refl

-- the receiver's table is that from which it sends the other way
pub half_back : (d : Dir) (s : Nodes) (b : Established) (r : Entities) → bearer_in (receiver_table d s) b.id ≡ Some r → half b (sender_table (other d) s) ≡ r
half_back Dl s b r has = half_at b s.terminal b.id r has refl
half_back Ul s b r has = half_at b s.master b.id r has refl

-- what it sends with is there then
pub put_back_here : (d : Dir) (s : Nodes) (b : Established) (r r' : Entities) → bearer_in (receiver_table d s) b.id ≡ Some r → half b (sender_table (other d) (receiver_put d s b.id r')) ≡ r'
put_back_here Dl s b r r' has = sender_put_here Ul s b b.id r r' has refl
put_back_here Ul s b r r' has = sender_put_here Dl s b b.id r r' has refl

-- any other is as before
pub put_back_apart : (d : Dir) (s : Nodes) (id : ℕ) (r : Entities) (x : Established) (k : Dir) → Apart (other d) id k x.id → half x (sender_table k (receiver_put d s id r)) ≡ half x (sender_table k s)
put_back_apart Dl s id r x k apart = sender_put_apart Ul s id r x k apart
put_back_apart Ul s id r x k apart = sender_put_apart Dl s id r x k apart

-- and so is each receiving side
pub put_back_rx : (d : Dir) (s : Nodes) (id : ℕ) (r r' : Entities) → bearer_in (receiver_table d s) id ≡ Some r → r'.rx ≡ r.rx
    → (x : Established) (k : Dir) → (half x (receiver_table k (receiver_put d s id r'))).rx ≡ (half x (receiver_table k s)).rx
put_back_rx Dl s id r r' has same x k = sender_put_rx Ul s id r r' has same x k
put_back_rx Ul s id r r' has same x k = sender_put_rx Dl s id r r' has same x k

-- ---- nodes that keep their bearers

-- each place has the same bearer as before
pub record Keeps (s s' : Nodes) : Type 0 where
  pub drawn : s'.drawn ≡ s.drawn
  pub busy : s'.busy ≡ s.busy
  pub master_long : length s'.master ≡ length s.master
  pub terminal_long : length s'.terminal ≡ length s.terminal
  pub bearers : (k : Dir) (i : ℕ) → option_map (λ e. e.bearer) (bearer_in (sender_table k s') i) ≡ option_map (λ e. e.bearer) (bearer_in (sender_table k s) i)

-- nothing changes
pub keeps_all : (s : Nodes) → Keeps s s
keeps_all s = record { drawn = refl; busy = refl; master_long = refl; terminal_long = refl; bearers = λ k i. refl }

-- what one place holds changes, but not its bearer
pub keeps_sender : (d : Dir) (s : Nodes) (id : ℕ) (e e' : Entities) → bearer_in (sender_table d s) id ≡ Some e → e'.bearer ≡ e.bearer → Keeps s (sender_put d s id e')
keeps_sender Dl s id e e' at same = record {
  drawn = refl;
  busy = refl;
  master_long = length-with_bearer s.master id (Some e');
  terminal_long = refl;
  bearers = sender_put_same (option_map (λ e. e.bearer)) Dl s id e e' at (ap Some same);
}
keeps_sender Ul s id e e' at same = record {
  drawn = refl;
  busy = refl;
  master_long = refl;
  terminal_long = length-with_bearer s.terminal id (Some e');
  bearers = sender_put_same (option_map (λ e. e.bearer)) Ul s id e e' at (ap Some same);
}

-- so it is at the node that receives
pub keeps_receiver : (d : Dir) (s : Nodes) (id : ℕ) (e e' : Entities) → bearer_in (receiver_table d s) id ≡ Some e → e'.bearer ≡ e.bearer → Keeps s (receiver_put d s id e')
keeps_receiver Dl s id e e' at same = keeps_sender Ul s id e e' at same
keeps_receiver Ul s id e e' at same = keeps_sender Dl s id e e' at same

-- ---- the tables and the transcript

-- an entry of a table whose bearer is this one
from_map : (o : Option Entities) (b : Established) → option_map (λ e. e.bearer) o ≡ Some b → (e : Entities) × (o ≡ Some e) × (e.bearer ≡ b)
from_map None b is = absurd cc
from_map (Some e) b is = (e, refl, same_Some e.bearer b is)

module _ (t : List Entry) (s : Nodes) (tables : IsTabled t s) where
  -- the master has every bearer
  pub at_the_master : (b : Established) → Contains (established t) b → (e : Entities) × (bearer_in s.master b.id ≡ Some e) × (e.bearer ≡ b)
  at_the_master b there = from_map (bearer_in s.master b.id) b (tables.master_is b.id ∙ tables.once b there)

  -- the bearer of an identity that a node has is the latest
  latest_at : (d : Dir) (id : ℕ) (e : Entities) → bearer_in (sender_table d s) id ≡ Some e → latest id (established t) ≡ Some e.bearer
  latest_at Dl id e at = sym (tables.master_is id) ∙ ap (option_map (λ (x : Entities). x.bearer)) at
  latest_at Ul id e at =
      let is : at_terminal id t ≡ Some e.bearer = sym (tables.terminal_is id) ∙ ap (option_map (λ (x : Entities). x.bearer)) at in
      elim (cases_Bool (is_set id t)) [ inl set' ↦ (let e = rw set' at is in e) | inr unset ↦ (let e = rw unset at is in absurd (cc (e))) ]

  -- what a node has of an identity is the bearer of the transcript
  pub is_the_bearer : (d : Dir) (b : Established) (e : Entities) → Contains (established t) b → bearer_in (sender_table d s) b.id ≡ Some e → e.bearer ≡ b
  is_the_bearer d b e there at = same_Some e.bearer b (sym (latest_at d b.id e at) ∙ tables.once b there)

  -- it is established, under that identity
  pub is_established : (d : Dir) (id : ℕ) (e : Entities) → bearer_in (sender_table d s) id ≡ Some e → Contains (established t) e.bearer × (e.bearer.id ≡ id)
  is_established d id e at = latest_there id (established t) e.bearer (latest_at d id e at)

  -- a bearer that the master can submit to is not the one whose command is open
  pub not_changed : (id : ℕ) (x : Established) → at_submitter Dl id t ≡ Some x
      → (b : Established) → Contains (established t) b → s.busy ≡ Some (change b.g) → (id == b.id) ≡ false
  not_changed id x there b at' busy =
      elim (cases_Bool (id == b.id)) [
        | inl same ↦
            let opened : open_command t ≡ Some (change b.g) = sym tables.busy_is ∙ busy in
            let found : latest id (established t) ≡ Some b = ap (λ k. latest k (established t)) (eqb-true id b.id same) ∙ tables.once b at' in
            let none : unless_opening (open_command t) (latest id (established t)) ≡ None =
            ap (λ o. unless_opening o (latest id (established t))) opened ∙ ap (unless_opening (Some (change b.g))) found ∙ cond-true _ _ _ (eq-eqb b.g b.g refl) in
            absurd (none-some x (sym none ∙ there))
        | inr apart ↦ apart
      ]

  -- nor is it at the terminal, which lacks that one
  pub not_opening : (d : Dir) (id : ℕ) (e : Entities) → bearer_in (sender_table d s) id ≡ Some e → at_submitter d id t ≡ Some e.bearer
      → (b : Established) → Contains (established t) b → s.busy ≡ Some (change b.g) → bearer_in s.terminal b.id ≡ None → (id == b.id) ≡ false
  not_opening Dl id e at there b at' busy absent = not_changed id e.bearer there b at' busy
  not_opening Ul id e at there b at' busy absent =
      elim (cases_Bool (id == b.id)) [
        | inl same ↦ absurd (none-some e (sym absent ∙ ap (bearer_in s.terminal) (sym (eqb-true id b.id same)) ∙ at))
        | inr apart ↦ apart
      ]

  -- so it is not what the master sends of that one
  pub apart_at_master : (d : Dir) (id : ℕ) (x : Established) → at_submitter d id t ≡ Some x
      → (b : Established) → Contains (established t) b → s.busy ≡ Some (change b.g) → Apart d id Dl b.id
  apart_at_master Dl id x there b at' busy = inr (not_changed id x there b at' busy)
  apart_at_master Ul id x there b at' busy = inl refl

-- each payload has its COUNT
length-numbered : (c : ℕ) (sdus : List (List ℕ)) → length (numbered c sdus) ≡ length sdus
length-numbered c [] = refl
length-numbered c (x ∷ xs) = let rest = length-numbered (c + 1) xs in cc

-- RX_DELIV is past what was handed up
pub deliv_is : (t : List Entry) (s : Nodes) (links : Links) (b : Established) (d : Dir) → IsServed t s links b d → b.first + length (handed b d t) ≡ (half b (receiver_table d s)).rx.deliv
deliv_is t s links b d served =
    let deliv = (half b (receiver_table d s)).rx.deliv in
    let lane = served.lane in
    let from : b.first ≤ deliv = lane.from in
    let upto = lane.upto in
    let counted = lane.counted in
    let many : deliv - b.first ≤ length (submitted b d t) = omega (arith, from, upto, counted) in
    let long : length (handed b d t) ≡ deliv - b.first =
    ap (λ (xs : List (ℕ × List ℕ)). length xs) served.handed_is ∙ length-numbered b.first (take (deliv - b.first) (submitted b d t)) ∙ length-take-le (deliv - b.first) (submitted b d t) many in
    omega (arith, from, long)
