-- What a command would change: its plan, and what becomes of the table where it is carried out (TS 37.340, 10.2 to 10.5
-- and 10.7; TS 33.501, 6.10.3.1 for the keys).
use Rattle.std.specs.List.{list_any}
use Rattle.std.specs.Option.{option_map}
use Rattle.std.specs.Prelude.{Bool, List, None, Option, Some, [], false, filter, if◌then◌else◌, is_some, length, map, not, true, ℕ, ◌&&◌, ◌==◌, ◌∷◌}
use Rattle.dc_base.specs.Nodes.{is_mm}
use Rattle.dc_base.specs.declared.events.Event.{Event}
use Rattle.dc_base.specs.declared.events.Event.TheVariants as event
use Rattle.dc_base.specs.declared.nodes.KeyName.{KeyName}
use Rattle.dc_base.specs.declared.nodes.Node.{Node}
use Rattle.dc_base.specs.declared.nodes.Shape.{Shape}
use Rattle.dc_base.specs.declared.nodes.Want.{Want}
use Rattle.dc_base.specs.declared.nodes.Want.TheVariants as want
use Rattle.dc_base.specs.declared.numbers.SnLen.{SnLen}
use Rattle.dc_base.specs.declared.records.Item.{Item}
use Rattle.dc_base.specs.declared.records.Item.TheVariants.{Set, Unset}
use Rattle.key_chain.specs.KeyNames.{octets}
use Rattle.claims.specs.Sameness.{is_none_or, is_number, is_same_key, is_some_and}
use Rattle.claims.specs.Shapes.{anchor_at, mm, other_second}
use Rattle.claims.specs.Table.{Row, Table, key_for, next_key, row, second_key}
use Rattle.claims.specs.Reading.{named}

-- the secondary after the command, the root and the K_SN that are current then, whether that K_SN is new, the octets of
-- a new root, the items, and the secondary that is asked first, if one is
pub record Draft : Type 0 where
  pub sec : Option Node
  pub root : ℕ
  pub second_key : KeyName
  pub is_new : Bool
  pub named : List (List ℕ)
  pub items : List Item
  pub target : Option Node

-- an item that sets a bearer of the table to a shape
abbrev pub set_to : Table → ℕ → KeyName → (Row → Shape) → Row → Item
set_to t root k shape r =
    Set r.id r.n r.first (shape r) r.threshold r.policy (key_for (shape r) root k) (Some (anchor_at t.sec r.shape))

-- a draft that keeps secondary, root and K_SN
abbrev pub draft_of : Table → List Item → Option Node → Draft
draft_of t items target = record { sec = t.sec; root = t.root; second_key = t.second_key; is_new = false; named = []; items = items; target = target }

-- one that makes the next K_SN, for this secondary, which is asked
abbrev pub renewing : Table → Option Node → List Item → Draft
renewing t sec items = record { sec = sec; root = t.root; second_key = next_key t; is_new = true; named = []; items = items; target = sec }

-- the node, unless this holds
abbrev pub unless : Bool → Option Node → Option Node
unless b x = if b then None else x

-- a bearer that is not there needs no secondary, nor does one of the shape mm
abbrev pub is_mm_row : Option Row → Bool
is_mm_row r = is_none_or (λ x. is_mm x.shape) r

-- the draft of a new bearer
abbrev pub bearer_draft : Table → ℕ → SnLen → ℕ → Shape → ℕ → ℕ → Draft
bearer_draft t id n first shape threshold policy =
    draft_of t (Set id n first shape threshold policy (key_for shape t.root t.second_key) None ∷ []) (unless (is_mm shape) t.sec)

-- of another shape
abbrev pub shape_draft : Table → ℕ → Shape → Draft
shape_draft t id shape = draft_of t (map (set_to t t.root t.second_key (λ r. shape)) (filter (λ r. r.id == id) t.rows)) t.sec

-- of a change of the secondary: every bearer that is not mm keeps its shape
abbrev pub change_draft : Table → Draft
change_draft t =
    renewing t (Some (other_second t.sec)) (map (set_to t t.root (next_key t) (λ r. r.shape)) (filter (λ r. not (is_mm r.shape)) t.rows))

-- of its release: every bearer that is not mm becomes mm
abbrev pub release_draft : Table → Draft
release_draft t = record {
  sec = None;
  root = t.root;
  second_key = t.second_key;
  is_new = false;
  named = [];
  items = map (set_to t t.root t.second_key (λ r. mm)) (filter (λ r. not (is_mm r.shape)) t.rows);
  target = t.sec;
}

-- of a new key for the secondary: every bearer anchored there
abbrev pub rekey_second_draft : Table → Draft
rekey_second_draft t = renewing t t.sec (map (set_to t t.root (next_key t) (λ r. r.shape)) (filter (λ r. r.shape.at_second) t.rows))

-- of a new root: every bearer; a secondary gets the first K_SN of that root
abbrev pub rekey_master_draft : Table → List ℕ → Draft
rekey_master_draft t octets =
    let new = length t.roots in
    record {
      sec = t.sec;
      root = new;
      second_key = second_key new 0;
      is_new = is_some t.sec;
      named = octets ∷ [];
      items = map (set_to t new (second_key new 0) (λ r. r.shape)) t.rows;
      target = t.sec;
    }

-- the draft of an event; none of one that draws no generation
abbrev pub draft : Table → Event → Option Draft
draft t (event.Bearer id n first shape threshold policy) = Some (bearer_draft t id n first shape threshold policy)
draft t (event.Reshape id shape) = Some (shape_draft t id shape)
draft t (event.Remove id) = Some (draft_of t (Unset id ∷ []) (unless (is_mm_row (row t id)) t.sec))
draft t (event.Add node) = Some (renewing t (Some node) [])
draft t event.Change = Some (change_draft t)
draft t event.Release = Some (release_draft t)
draft t event.RekeySecond = Some (rekey_second_draft t)
draft t (event.RekeyMaster octets) = Some (rekey_master_draft t octets)
draft t (event.Recover id) = None
draft t (event.Submit id d sdu) = None
draft t (event.Report x id) = None
draft t (event.Deny x on) = None
draft t (event.Ask x w) = None
draft t event.ScgFail = None
draft t (event.Step l i) = None
draft t (event.Lose l i) = None
draft t (event.Again l i) = None

-- the command that a request of a secondary begins
abbrev pub command_of : Want → Event
command_of want.Rekey = event.RekeySecond
command_of want.Change = event.Change
command_of want.Release = event.Release

-- ---- a key that is spent

-- the establishment that an item is of: none where it sets up a new one
abbrev pub own_bearer : Table → ℕ → Option Node → Option ℕ
own_bearer t id None = None
own_bearer t id (Some old) = option_map (λ r. r.bearer) (row t id)

-- the key that the item would set is in use for that identity by another establishment
abbrev pub is_spent : Table → Item → Bool
is_spent t (Set id n first shape threshold policy key old) =
    list_any (λ c. (c.id == id) && is_same_key key c.key && not (is_number c.bearer (own_bearer t id old))) t.uses
is_spent t (Unset id) = false

-- an event would set such a key
abbrev pub spends : Table → Event → Bool
spends t e = is_some_and (λ d. list_any (is_spent t) d.items) (draft t e)
