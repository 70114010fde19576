-- What is read of a past grows with each plan that is drawn and each payload that is submitted in uplink.
use Rattle.std.proofs.Common.{ℕ, ◌≡◌, ◌≤◌, ◌<◌, ◌+◌, ◌++◌, ◌==◌, ◌&&◌, Bool, true, false, List, [], ◌∷◌, Option, Some, None, length, refl, sym, ap, subst, ◌∙◌, arith, inl, inr}
use Rattle.std.specs.Prelude.{filter, find, fold, map, nat_le, not, ⊤}
use Rattle.std.specs.List.{AllByRecursion}
use Rattle.std.proofs.lemmas.Bool.{cases_Bool, eqb-true, leb-true, ne_eqb}
use Rattle.std.proofs.lemmas.List.{length-append}
use Rattle.dc_base.specs.declared.events.Event.{Event}
use Rattle.dc_base.specs.declared.events.Event.TheVariants as event
use Rattle.dc_base.specs.declared.flights.Flight.{Flight}
use Rattle.dc_base.specs.declared.nodes.Dir.TheVariants.{Dl, Ul}
use Rattle.dc_base.specs.declared.nodes.LinkId.{LinkId}
use Rattle.dc_base.specs.declared.nodes.Node.{Node}
use Rattle.dc_base.specs.declared.records.Item.{Item}
use Rattle.dc_base.specs.declared.records.Item.TheVariants.{Set, Unset}
use Rattle.dc_base.specs.declared.records.Plan.{Plan}
use Rattle.master_runs.proofs.Lists.{slice_get_left}
use Rattle.dc_base.specs.Nodes.{is_mm}
use Rattle.dc_base.specs.declared.nodes.KeyName.{KeyName}
use Rattle.dc_base.specs.declared.nodes.Shape.{Shape}
use Rattle.claims.specs.Drafts.{Draft, draft, set_to}
use Rattle.claims.specs.Shapes.{mm}
use Rattle.claims.specs.Judged.{has_scg_in}
use Rattle.claims.specs.Reading.{Setting, setting_of, sets}
use Rattle.claims.specs.Table.{Row, Table, next_key, second_key}
use Rattle.run_uplinks.specs.Readings.{Face, face_of, reading}
use Rattle.run_uplinks.specs.Seen.{Seen, Uplink, draws, fails_in, leg_fails, new_uplink, on_latest, one_more, setting_in, with_event, with_given, with_new}
use Rattle.run_uplinks.specs.Uplinks.{IsOfRoot, RowsAscend}
use Rattle.run_uplinks.proofs.Drawing.{index_more, some_rows}
use Rattle.run_uplinks.proofs.Establishments.{some_is}
use Rattle.run_uplinks.proofs.ReadStays.{flight_reads}
use Rattle.run_uplinks.proofs.Roots.{OfOneRoot}
use Rattle.run_uplinks.proofs.Wells.{AreUpTo}
use Rattle.run_relays.specs.Pdus.{AreApart, AreRooted, Ascend, Extends, GrowsTo, named_face}
use Rattle.run_relays.proofs.Growing.{extends_self, grows_same, grows_self}

-- ---- a plan is drawn

-- a generation whose plan sets something was drawn
set_upto : (last id g : ℕ) (plans : List Plan) (x : Setting) → AreUpTo last plans → setting_in plans id g ≡ Some x → g ≤ last
set_upto last id g [] x all at = absurd (let bad : None ≡ Some x = at in cc)
set_upto last id g (q ∷ plans) x all at =
    elim (cases_Bool (q.g == g)) [
      | inl here ↦ let is = eqb-true q.g g here in omega (arith, is, all.0)
      | inr there ↦ set_upto last id g plans x all.1 (rw there at at)
    ]

set_before : (q : Plan) (id g : ℕ) (plans : List Plan) → (q.g == g) ≡ false → setting_in (q ∷ plans) id g ≡ setting_in plans id g
set_before q id g plans apart = rw apart refl

-- new establishments are of a later name
skips : (f : Face) (id g : ℕ) (fs : List Face) → g < f.g → named_face id g (f ∷ fs) ≡ named_face id g fs
skips f id g fs later =
    elim (cases_Bool ((f.id == id) && nat_le f.g g)) [
      | inl here ↦ absurd (let upto = leb-true f.g g (right_of (f.id == id) (nat_le f.g g) here) in omega (arith, upto, later))
      | inr there ↦ rw there refl
    ]
  where
    right_of : (x y : Bool) → (x && y) ≡ true → y ≡ true
    right_of true y is = is
    right_of false y is = absurd cc

new_faces : (k id g : ℕ) (items : List Item) (us : List Uplink) → g < k → named_face id g (map face_of (fold (with_new k) us items)) ≡ named_face id g (map face_of us)
new_faces k id g [] us later = refl
new_faces k id g (Set i n first shape threshold policy key None ∷ items) us later =
    new_faces k id g items (new_uplink k i n first ∷ us) later ∙ skips (face_of (new_uplink k i n first)) id g (map face_of us) later
new_faces k id g (Set i n first shape threshold policy key (Some old) ∷ items) us later = new_faces k id g items us later
new_faces k id g (Unset i ∷ items) us later = new_faces k id g items us later

pub draws_grow : (s : Seen) (o : Option Draft) → AreUpTo s.last s.plans → GrowsTo (reading s) (reading (draws o s))
draws_grow s None all = grows_self (reading s)
draws_grow s (Some d) all =
    let q : Plan = record { g = s.last + 1; sec = d.sec; items = d.items } in
    record {
      alg = refl;
      settings = λ id g x at.
          let upto = set_upto s.last id g s.plans x all at in
          set_before q id g s.plans (ne_eqb (s.last + 1) g (λ same. omega (arith, upto, same))) ∙ at;
      roots = λ i below. (let more = length-append s.roots d.named in omega (arith, more, below), index_more s.roots d.named i below);
      faces = λ id g x f set at.
          let upto = set_upto s.last id g s.plans x all set in
          (f, new_faces (s.last + 1) id g d.items s.bearers (omega (arith, upto)) ∙ at, extends_self f);
    }

-- ---- its keys are of a root that was named

found_root : (root : ℕ) (sec : Option Node) (id : ℕ) (items : List Item) (x : Setting) → AllByRecursion (IsOfRoot root) items → setting_of sec (find (sets id) items) ≡ Some x → x.key.root ≡ root
found_root root sec id [] x all at = absurd (let bad : None ≡ Some x = at in cc)
found_root root sec id (Set i n first shape threshold policy key old ∷ items) x all at =
    elim (cases_Bool (i == id)) [
      | inl here ↦
          let same = some_is (record { sec = sec; shape = shape; key = key; old = old }) x (rw here at at) in
          ap (λ (y : Setting). y.key.root) (sym same) ∙ all.0
      | inr there ↦ found_root root sec id items x all.1 (rw there at at)
    ]
found_root root sec id (Unset i ∷ items) x all at = found_root root sec id items x all.1 at

pub draws_rooted : (t : Table) (s : Seen) (o : Option Draft) → OfOneRoot t o → t.roots ≡ s.roots → AreRooted (reading s) → AreRooted (reading (draws o s))
draws_rooted t s None one same rooted = rooted
draws_rooted t s (Some d) one same rooted = λ id g x at.
    let q : Plan = record { g = s.last + 1; sec = d.sec; items = d.items } in
    elim (cases_Bool (s.last + 1 == g)) [
      | inl here ↦
          let of = found_root d.root d.sec id d.items x one.items (rw here at at) in
          let named : d.root < length (s.roots ++ d.named) = subst (λ rs. d.root < length (rs ++ d.named)) same one.named in
          omega (arith, of, named)
      | inr there ↦
          let before = rooted id g x (sym (set_before q id g s.plans there) ∙ at) in
          let more = length-append s.roots d.named in
          omega (arith, more, before)
    ]

-- ---- its items are of bearers apart

items_ascend : (t : Table) (root : ℕ) (k : KeyName) (shape : Row → Shape) (from : ℕ) (rows : List Row) → RowsAscend from rows → Ascend from (map (set_to t root k shape) rows)
items_ascend t root k shape from [] up = tt
items_ascend t root k shape from (r ∷ rows) up = (up.0, items_ascend t root k shape (r.id + 1) rows up.1)

-- those of a draft
abbrev pub IsApart : Option Draft → Type 0
IsApart None = ⊤
IsApart (Some d) = Ascend 0 d.items

pub draft_apart : (t : Table) → RowsAscend 0 t.rows → (e : Event) → IsApart (draft t e)
draft_apart t up (event.Bearer id n first shape threshold policy) = (omega arith, tt)
draft_apart t up (event.Reshape id shape) = items_ascend t t.root t.second_key (λ r. shape) 0 (filter (λ r. r.id == id) t.rows) (some_rows (λ r. r.id == id) 0 t.rows up)
draft_apart t up (event.Remove id) = (omega arith, tt)
draft_apart t up (event.Add x) = tt
draft_apart t up event.Change = items_ascend t t.root (next_key t) (λ r. r.shape) 0 (filter (λ r. not (is_mm r.shape)) t.rows) (some_rows (λ r. not (is_mm r.shape)) 0 t.rows up)
draft_apart t up event.Release = items_ascend t t.root t.second_key (λ r. mm) 0 (filter (λ r. not (is_mm r.shape)) t.rows) (some_rows (λ r. not (is_mm r.shape)) 0 t.rows up)
draft_apart t up event.RekeySecond = items_ascend t t.root (next_key t) (λ r. r.shape) 0 (filter (λ r. r.shape.at_second) t.rows) (some_rows (λ r. r.shape.at_second) 0 t.rows up)
draft_apart t up (event.RekeyMaster octets) = items_ascend t (length t.roots) (second_key (length t.roots) 0) (λ r. r.shape) 0 t.rows up
draft_apart t up (event.Recover id) = tt
draft_apart t up (event.Submit id d sdu) = tt
draft_apart t up (event.Report x id) = tt
draft_apart t up (event.Deny x on) = tt
draft_apart t up (event.Ask x w) = tt
draft_apart t up event.ScgFail = tt
draft_apart t up (event.Step l i) = tt
draft_apart t up (event.Lose l i) = tt
draft_apart t up (event.Again l i) = tt

pub draws_apart : (s : Seen) (o : Option Draft) → IsApart o → AreApart (reading s) → AreApart (reading (draws o s))
draws_apart s None apart are = are
draws_apart s (Some d) apart are = (apart, are)

-- ---- a payload is submitted

more_extends : (u : Uplink) (sdu : List ℕ) → Extends (face_of u) (face_of (one_more sdu u))
more_extends u sdu = record { id = refl; n = refl; first = refl; submitted = λ k payload at. slice_get_left u.submitted (sdu ∷ []) k payload at }

-- the establishment that was found is found, with no less submissions
record FindsMore (id g : ℕ) (f : Face) (fs : List Face) : Type 0 where
  face : Face
  found : named_face id g fs ≡ Some face
  more : Extends f face

finds_same : (id g : ℕ) (f : Face) (fs : List Face) → named_face id g fs ≡ Some f → FindsMore id g f fs
finds_same id g f fs at = record { face = f; found = at; more = extends_self f }

more_faces : (of : ℕ) (sdu : List ℕ) (id g : ℕ) (us : List Uplink) (f : Face) → named_face id g (map face_of us) ≡ Some f → FindsMore id g f (map face_of (on_latest of (one_more sdu) us))
more_faces of sdu id g [] f at = absurd (let bad : None ≡ Some f = at in cc)
more_faces of sdu id g (u ∷ us) f at =
    elim (cases_Bool (u.id == of)) [
      | inl here ↦ elim (cases_Bool ((u.id == id) && nat_le u.g g)) [
        | inl yes' ↦
            let same = some_is (face_of u) f (rw yes' at at) in
            rw here (record { face = face_of (one_more sdu u); found = rw yes' refl; more = subst (λ y. Extends y (face_of (one_more sdu u))) same (more_extends u sdu) })
        | inr no' ↦ rw here (record { face = f; found = rw no' (rw no' at at); more = extends_self f })
      ]
      | inr there ↦ elim (cases_Bool ((u.id == id) && nat_le u.g g)) [
        | inl yes' ↦ rw there (record { face = f; found = rw yes' (rw yes' at at); more = extends_self f })
        | inr no' ↦ let x = more_faces of sdu id g us f (rw no' at at) in rw there (record { face = x.face; found = rw no' x.found; more = x.more })
      ]
    ]

submission_grows : (s : Seen) (of : ℕ) (sdu : List ℕ) → GrowsTo (reading s) (reading (record s { bearers = on_latest of (one_more sdu) s.bearers }))
submission_grows s of sdu = record {
  alg = refl;
  settings = λ id g x at. at;
  roots = λ i below. (below, refl);
  faces = λ id g x f set at. let y = more_faces of sdu id g s.bearers f at in (y.face, y.found, y.more);
}

-- ---- any event

leg_reads : (is : Bool) (u : Uplink) → face_of (leg_fails is u) ≡ face_of u
leg_reads true u = refl
leg_reads false u = refl

failure_reads : (plans : List Plan) (us : List Uplink) → map face_of (map (λ (u : Uplink). fails_in plans u u.terminal) us) ≡ map face_of us
failure_reads plans [] = refl
failure_reads plans (u ∷ us) = ap (λ x. x ∷ map face_of (map (λ (v : Uplink). fails_in plans v v.terminal) us)) (one u.terminal) ∙ ap (λ xs. face_of u ∷ xs) (failure_reads plans us)
  where
    one : (o : Option ℕ) → face_of (fails_in plans u o) ≡ face_of u
    one None = refl
    one (Some g) = leg_reads (has_scg_in (setting_in plans u.id g)) u

given_reads : (o : Option (LinkId × Flight)) (s : Seen) → reading (with_given o s) ≡ reading s
given_reads None s = refl
given_reads (Some x) s = flight_reads x.1 s

module _ (d : Option Draft) (o : Option (LinkId × Flight)) (s : Seen) where
  pub event_grows : (e : Event) → AreUpTo s.last s.plans → GrowsTo (reading s) (reading (with_event d o e s))
  event_grows (event.Bearer id n first shape threshold policy) all = draws_grow s d all
  event_grows (event.Reshape id shape) all = draws_grow s d all
  event_grows (event.Remove id) all = draws_grow s d all
  event_grows (event.Add x) all = draws_grow s d all
  event_grows event.Change all = draws_grow s d all
  event_grows event.Release all = draws_grow s d all
  event_grows event.RekeySecond all = draws_grow s d all
  event_grows (event.RekeyMaster root) all = draws_grow s d all
  event_grows (event.Recover id) all = grows_self (reading s)
  event_grows (event.Submit id Dl sdu) all = grows_self (reading s)
  event_grows (event.Submit id Ul sdu) all = submission_grows s id sdu
  event_grows (event.Report x id) all = grows_self (reading s)
  event_grows (event.Deny x on) all = grows_self (reading s)
  event_grows (event.Ask x w) all = grows_self (reading s)
  event_grows event.ScgFail all =
      grows_same (reading s) (reading (with_event d o event.ScgFail s)) (ap (λ fs. record (reading s) { faces = fs }) (failure_reads s.plans s.bearers))
  event_grows (event.Step l i) all = grows_same (reading s) (reading (with_given o s)) (given_reads o s)
  event_grows (event.Lose l i) all = grows_self (reading s)
  event_grows (event.Again l i) all = grows_self (reading s)

  pub event_rooted : (t : Table) (e : Event) → OfOneRoot t d → t.roots ≡ s.roots → AreRooted (reading s) → AreRooted (reading (with_event d o e s))
  event_rooted t (event.Bearer id n first shape threshold policy) one same rooted = draws_rooted t s d one same rooted
  event_rooted t (event.Reshape id shape) one same rooted = draws_rooted t s d one same rooted
  event_rooted t (event.Remove id) one same rooted = draws_rooted t s d one same rooted
  event_rooted t (event.Add x) one same rooted = draws_rooted t s d one same rooted
  event_rooted t event.Change one same rooted = draws_rooted t s d one same rooted
  event_rooted t event.Release one same rooted = draws_rooted t s d one same rooted
  event_rooted t event.RekeySecond one same rooted = draws_rooted t s d one same rooted
  event_rooted t (event.RekeyMaster root) one same rooted = draws_rooted t s d one same rooted
  event_rooted t (event.Recover id) one same rooted = rooted
  event_rooted t (event.Submit id Dl sdu) one same rooted = rooted
  event_rooted t (event.Submit id Ul sdu) one same rooted = rooted
  event_rooted t (event.Report x id) one same rooted = rooted
  event_rooted t (event.Deny x on) one same rooted = rooted
  event_rooted t (event.Ask x w) one same rooted = rooted
  event_rooted t event.ScgFail one same rooted = rooted
  event_rooted t (event.Step l i) one same rooted = subst AreRooted (sym (given_reads o s)) rooted
  event_rooted t (event.Lose l i) one same rooted = rooted
  event_rooted t (event.Again l i) one same rooted = rooted

  pub event_apart : (e : Event) → IsApart d → AreApart (reading s) → AreApart (reading (with_event d o e s))
  event_apart (event.Bearer id n first shape threshold policy) apart are = draws_apart s d apart are
  event_apart (event.Reshape id shape) apart are = draws_apart s d apart are
  event_apart (event.Remove id) apart are = draws_apart s d apart are
  event_apart (event.Add x) apart are = draws_apart s d apart are
  event_apart event.Change apart are = draws_apart s d apart are
  event_apart event.Release apart are = draws_apart s d apart are
  event_apart event.RekeySecond apart are = draws_apart s d apart are
  event_apart (event.RekeyMaster root) apart are = draws_apart s d apart are
  event_apart (event.Recover id) apart are = are
  event_apart (event.Submit id Dl sdu) apart are = are
  event_apart (event.Submit id Ul sdu) apart are = are
  event_apart (event.Report x id) apart are = are
  event_apart (event.Deny x on) apart are = are
  event_apart (event.Ask x w) apart are = are
  event_apart event.ScgFail apart are = are
  event_apart (event.Step l i) apart are = subst AreApart (sym (given_reads o s)) are
  event_apart (event.Lose l i) apart are = are
  event_apart (event.Again l i) apart are = are
