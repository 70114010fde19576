-- What the terminal notes of a plan that it takes, by what is seen of the past.
use Rattle.std.proofs.Common.{ℕ, ◌≡◌, ◌+◌, ◌≤◌, ◌==◌, ◌++◌, Bool, true, false, not, List, [], ◌∷◌, Option, Some, None, refl, sym, ap, subst, ◌∙◌, inl, inr, arith}
use Rattle.std.specs.Prelude.{find, if◌then◌else◌, is_some, map, nat_le, ◌&&◌, ◌||◌, ◌<◌}
use Rattle.std.specs.List.{AllByRecursion, list_any}
use Rattle.std.specs.Option.{option_and_then, option_map}
use Rattle.std.proofs.lemmas.Bool.{and_from, cases_Bool, eq-eqb, ne_eqb}
use Rattle.dc_base.specs.Nodes.{is_same_node}
use Rattle.dc_base.specs.declared.events.Line.{Line}
use Rattle.dc_base.specs.declared.events.Line.TheVariants as line
use Rattle.dc_base.specs.declared.events.Note.{Note}
use Rattle.dc_base.specs.declared.events.Note.TheVariants as note
use Rattle.dc_base.specs.declared.flights.Flight.{Flight}
use Rattle.dc_base.specs.declared.flights.Flight.TheVariants as flight
use Rattle.dc_base.specs.declared.nodes.LinkId.{LinkId}
use Rattle.dc_base.specs.declared.nodes.Node.TheVariants.{T}
use Rattle.dc_base.specs.declared.nodes.KeyName.{KeyName}
use Rattle.dc_base.specs.declared.nodes.Shape.{Shape}
use Rattle.dc_base.specs.declared.numbers.SnLen.{SnLen}
use Rattle.dc_base.specs.declared.records.Item.{Item}
use Rattle.dc_base.specs.declared.records.Item.TheVariants.{Set, Unset}
use Rattle.dc_base.specs.declared.records.Plan.{Plan}
use Rattle.dc_base.specs.declared.records.Rec.{Rec}
use Rattle.dc_base.specs.declared.records.Rec.TheVariants as rec
use Rattle.claims.specs.LicenceRecords.{gives_record}
use Rattle.claims.specs.Noted.{noted}
use Rattle.claims.specs.Past.{Bearer, Past}
use Rattle.claims.specs.Placed.{given_sets, given_unsets, note_reason}
use Rattle.claims.specs.Views.{record_in}
use Rattle.claims.specs.Reading.{Setting, bearer_of, given_to, sets, setting_of, unsets}
use Rattle.claims.specs.Reading as reading
use Rattle.claims.specs.Sameness.{is_number, is_some_and}
use Rattle.run_uplinks.specs.Seen.{Seen, Uplink, changed_in, latest, named_in, on_latest, seen, set_to, setting_in, uplink_of, with_note}
use Rattle.run_uplinks.specs.Uplinks.{AreSettings, Descend}
use Rattle.run_uplinks.proofs.Establishments.{descend_latest, latest-other, named-latest, named-on, some_is}
use Rattle.run_uplinks.proofs.Seeing.{noted_seen}
use Rattle.run_uplinks.proofs.Unseen.{found_seen, latest_is}
use Rattle.run_placed.proofs.Beside.{ArePlaced, IsBeside, beside_placed}

-- the note of an item, in a plan of this generation
abbrev pub note_of : ℕ → Item → Note
note_of g (Set id n first shape threshold policy key old) = note.Set id g
note_of g (Unset id) = note.Unset id

-- the terminal does not have the bearer in this generation
pub record MaySet (s : Seen) (id g : ℕ) : Type 0 where
  pub bearer : Uplink
  pub there : latest id s.bearers ≡ Some bearer
  pub other : is_number g bearer.terminal ≡ false

-- it has the bearer
pub record MayUnset (s : Seen) (id : ℕ) : Type 0 where
  pub bearer : Uplink
  pub there : latest id s.bearers ≡ Some bearer
  pub has : is_some bearer.terminal ≡ true

-- an item may be taken
abbrev pub MayTake : Seen → ℕ → Item → Type 0
MayTake s g (Set id n first shape threshold policy key old) = MaySet s id g
MayTake s g (Unset id) = MayUnset s id

-- ---- one note

some_other : (o : Option Bearer) (u : Uplink) (g : ℕ) → option_map uplink_of o ≡ Some u → is_number g u.terminal ≡ false → is_some_and (λ (b : Bearer). not (is_number g b.terminal)) o ≡ true
some_other None u g at other = absurd (let bad : None ≡ Some u = at in cc)
some_other (Some b) u g at other = ap not (ap (λ (v : Uplink). is_number g v.terminal) (some_is (uplink_of b) u at) ∙ other)

some_has : (o : Option Bearer) (u : Uplink) → option_map uplink_of o ≡ Some u → is_some u.terminal ≡ true → is_some_and (λ (b : Bearer). is_some b.terminal) o ≡ true
some_has None u at has = absurd (let bad : None ≡ Some u = at in cc)
some_has (Some b) u at has = ap (λ (v : Uplink). is_some v.terminal) (some_is (uplink_of b) u at) ∙ has

-- the terminal is given this plan
abbrev pub Gives : LinkId → Plan → List ℕ → Past → Type 0
Gives l q key p = p.given ≡ Some (l, flight.Ctl (rec.Reconf q key))

module _ (l : LinkId) (q : Plan) (key : List ℕ) (to : l.to ≡ T) where
  to_terminal : (p : Past) → Gives l q key p → given_to T p ≡ true
  to_terminal p gives = ap (λ o. is_some_and (λ (s : LinkId × Flight). is_same_node T s.0.to) o) gives ∙ ap (is_same_node T) to

  gives_plan : (p : Past) (f : Rec → Bool) → Gives l q key p → f (rec.Reconf q key) ≡ true → gives_record f p ≡ true
  gives_plan p f gives is = ap (λ o. is_some_and f (option_and_then (λ (s : LinkId × Flight). record_in s.1) o)) gives ∙ is

  -- it took a bearer in the generation of the plan
  set_placed : (p : Past) → Gives l q key p → (id : ℕ) (x : Setting) → setting_in (seen p).plans id q.g ≡ Some x → Descend (q.g + 1) (seen p).bearers
      → list_any (sets id) q.items ≡ true → MaySet (seen p) id q.g → note_reason p (note.Set id q.g) ≡ true
  set_placed p gives id x set down among may =
      let named_is : option_map uplink_of (bearer_of p id q.g) ≡ Some may.bearer =
      ap (λ o. option_map uplink_of (reading.named p id q.g o)) set
      ∙ sym (found_seen (λ (u : Uplink). (u.id == id) && nat_le u.g q.g) p.bearers)
      ∙ named-latest (q.g + 1) id q.g x (seen p).bearers down (omega arith)
      ∙ may.there in
      and_from _ _ (and_from _ _ (to_terminal p gives) (gives_plan p (given_sets id q.g) gives (and_from (q.g == q.g) _ (eq-eqb q.g q.g refl) among)))
      (some_other (bearer_of p id q.g) may.bearer q.g named_is may.other)

  -- it dropped one
  unset_placed : (p : Past) → Gives l q key p → (id : ℕ) → list_any (unsets id) q.items ≡ true → MayUnset (seen p) id → note_reason p (note.Unset id) ≡ true
  unset_placed p gives id among may =
      and_from _ _ (and_from _ _ (to_terminal p gives) (gives_plan p (given_unsets id) gives among))
      (some_has (reading.latest p id) may.bearer (sym (latest_is id p.bearers) ∙ may.there) may.has)

  -- ---- several

  -- what is seen once it took the bearer
  set_seen : (s : Seen) (id : ℕ) (x : Setting) (u : Uplink) → setting_in s.plans id q.g ≡ Some x → Descend (q.g + 1) s.bearers → latest id s.bearers ≡ Some u
      → with_note s (note.Set id q.g) ≡ record s { bearers = on_latest id (set_to q.g) s.bearers }
  set_seen s id x u set down at =
      ap (λ o. record s { bearers = changed_in (set_to q.g) s.bearers (named_in id q.g o s.bearers) }) set
      ∙ ap (λ o. record s { bearers = changed_in (set_to q.g) s.bearers o }) (named-latest (q.g + 1) id q.g x s.bearers down (omega arith) ∙ at)
      ∙ ap (λ us. record s { bearers = us }) (named-on (q.g + 1) id (set_to q.g) s.bearers u down at)

  -- those of later identities may still be set
  may_still : (s : Seen) (id from : ℕ) (items : List Item) → id < from → AreSettings from items → AllByRecursion (MayTake s q.g) items
      → AllByRecursion (MayTake (record s { bearers = on_latest id (set_to q.g) s.bearers }) q.g) items
  may_still s id from [] below olds may = tt
  may_still s id from (Set k n first shape threshold policy name None ∷ items) below olds may = absurd olds
  may_still s id from (Unset k ∷ items) below olds may = absurd olds
  may_still s id from (Set k n first shape threshold policy name (Some old) ∷ items) below olds may =
      let le = olds.0 in (
        record { bearer = may.0.bearer; there = latest-other id k (set_to q.g) (λ u. refl) (ne_eqb id k (λ same. omega (arith, below, le, same))) s.bearers ∙ may.0.there; other = may.0.other },
        may_still s id (k + 1) items (omega (arith, below, le)) olds.1 may.1,
      )

  -- what the plan sets of an identity
  in_plan : (qs : List Plan) (s : Seen) (id : ℕ) (o : Option Item) → s.plans ≡ q ∷ qs → find (sets id) q.items ≡ o → setting_in s.plans id q.g ≡ setting_of q.sec o
  in_plan qs s id o plans found =
      let here : (q.g == q.g) ≡ true = eq-eqb q.g q.g refl in
      ap (λ ps. setting_in ps id q.g) plans ∙ rw here (ap (setting_of q.sec) found)

  any_found : (id : ℕ) (items : List Item) (i : Item) → find (sets id) items ≡ Some i → list_any (sets id) items ≡ true
  any_found id [] i at = absurd (let bad : None ≡ Some i = at in cc)
  any_found id (x ∷ items) i at = elim (cases_Bool (sets id x)) [ inl here ↦ rw here refl | inr there ↦ rw there (any_found id items i (rw there at at)) ]

  -- bearers that were there before, one after another
  pub settings_placed : (qs : List Plan) (items : List Item) (from : ℕ) (p : Past) → Gives l q key p → (seen p).plans ≡ q ∷ qs → Descend (q.g + 1) (seen p).bearers
      → AreSettings from items → ((k : ℕ) → from ≤ k → find (sets k) q.items ≡ find (sets k) items) → AllByRecursion (MayTake (seen p) q.g) items
      → (rest : List Line) → AllByRecursion IsBeside rest → ArePlaced p (map (λ n. line.Note n) (map (note_of q.g) items) ++ rest)
  settings_placed qs [] from p gives plans down olds found may rest beside = beside_placed rest p beside
  settings_placed qs (Set id n first shape threshold policy name None ∷ items) from p gives plans down olds found may rest beside = absurd olds
  settings_placed qs (Unset id ∷ items) from p gives plans down olds found may rest beside = absurd olds
  settings_placed qs (Set id n first shape threshold policy name (Some old) ∷ items) from p gives plans down olds found may rest beside =
      let i = Set id n first shape threshold policy name (Some old) in
      let here : find (sets id) q.items ≡ Some i = found id olds.0 ∙ ap (λ b. if b then Some i else find (sets id) items) (eq-eqb id id refl) in
      let x : Setting = record { sec = q.sec; shape = shape; key = name; old = Some old } in
      let set : setting_in (seen p).plans id q.g ≡ Some x = in_plan qs (seen p) id (Some i) plans here in
      let next = noted p (line.Note (note.Set id q.g)) in
      let is : seen next ≡ record (seen p) { bearers = on_latest id (set_to q.g) (seen p).bearers } =
      noted_seen p (line.Note (note.Set id q.g)) refl ∙ set_seen (seen p) id x may.0.bearer set down may.0.there in (
        set_placed p gives id x set down (any_found id q.items i here) may.0,
        settings_placed qs items (id + 1) next gives (ap (λ (s : Seen). s.plans) is ∙ plans)
            (subst (λ (s : Seen). Descend (q.g + 1) s.bearers) (sym is) (descend_latest (q.g + 1) id (set_to q.g) (λ u. refl) (seen p).bearers down))
            olds.1 (λ k le. found k (let from_is = olds.0 in omega (arith, le, from_is)) ∙ ap (λ b. if b then Some i else find (sets k) items) (ne_eqb id k (λ same. omega (arith, le, same))))
            (subst (λ (s : Seen). AllByRecursion (MayTake s q.g) items) (sym is) (may_still (seen p) id (id + 1) items (omega arith) olds.1 may.1)) rest beside,
      )

  -- a new one
  pub new_placed : (qs : List Plan) (p : Past) → Gives l q key p → (seen p).plans ≡ q ∷ qs → Descend (q.g + 1) (seen p).bearers
      → (id : ℕ) (n : SnLen) (first : ℕ) (shape : Shape) (threshold policy : ℕ) (name : KeyName) → q.items ≡ Set id n first shape threshold policy name None ∷ []
      → MaySet (seen p) id q.g → (rest : List Line) → AllByRecursion IsBeside rest → ArePlaced p (line.Note (note.Set id q.g) ∷ rest)
  new_placed qs p gives plans down id n first shape threshold policy name items may rest beside =
      let i = Set id n first shape threshold policy name None in
      let here : find (sets id) q.items ≡ Some i = ap (find (sets id)) items ∙ ap (λ b. if b then Some i else None) (eq-eqb id id refl) in
      let x : Setting = record { sec = q.sec; shape = shape; key = name; old = None } in
      let set : setting_in (seen p).plans id q.g ≡ Some x = in_plan qs (seen p) id (Some i) plans here in
      (set_placed p gives id x set down (any_found id q.items i here) may, beside_placed rest (noted p (line.Note (note.Set id q.g))) beside)

  -- one that is dropped
  pub drop_placed : (p : Past) → Gives l q key p → (id : ℕ) → q.items ≡ Unset id ∷ [] → MayUnset (seen p) id → (rest : List Line) → AllByRecursion IsBeside rest
      → ArePlaced p (line.Note (note.Unset id) ∷ rest)
  drop_placed p gives id items may rest beside =
      (unset_placed p gives id (ap (list_any (unsets id)) items ∙ ap (λ b. b || false) (eq-eqb id id refl)) may, beside_placed rest (noted p (line.Note (note.Unset id))) beside)
