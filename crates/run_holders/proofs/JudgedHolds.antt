-- What an event does by itself, before its lines, to who holds each bearer.
use Rattle.std.proofs.Common.{ℕ, ◌≡◌, ◌+◌, ◌==◌, ◌∙◌, Bool, true, false, List, [], ◌∷◌, Option, Some, None, refl, sym, ap, subst, inl, inr}
use Rattle.std.specs.List.{list_any}
use Rattle.std.specs.Prelude.{filter, if◌then◌else◌, length, not, ⊤, ◌⊎◌}
use Rattle.std.proofs.lemmas.Bool.{eqb-true}
use Rattle.claims.specs.Table.{second_key}
use Rattle.dc_base.specs.Nodes.{is_mm, is_same_node}
use Rattle.dc_base.specs.declared.answers.Answer.{Answer}
use Rattle.dc_base.specs.declared.answers.Answer.TheVariants as answer
use Rattle.dc_base.specs.declared.events.Event.{Event}
use Rattle.dc_base.specs.declared.events.Event.TheVariants as event
use Rattle.dc_base.specs.declared.flights.Flight.{Flight}
use Rattle.dc_base.specs.declared.flights.Flight.TheVariants as flight
use Rattle.dc_base.specs.declared.nodes.LinkId.{LinkId}
use Rattle.dc_base.specs.declared.nodes.Node.{Node}
use Rattle.dc_base.specs.declared.records.Item.{Item}
use Rattle.dc_base.specs.declared.records.Rec.{Rec}
use Rattle.dc_base.specs.declared.records.Rec.TheVariants as rec
use Rattle.claims.specs.Drafts.{draft}
use Rattle.claims.specs.Judged.{judged}
use Rattle.claims.specs.Links.{find_at}
use Rattle.claims.specs.Past.{Past}
use Rattle.claims.specs.Reading.{unsets}
use Rattle.claims.specs.Shapes.{mm}
use Rattle.claims.specs.Table.{Row, next_key}
use Rattle.std.specs.Option.{option_map}
use Rattle.run_words.proofs.Standing.{found_at}
use Rattle.run_holders.specs.Actives.{Actives}
use Rattle.run_holders.specs.Fitting.{HoldsAll}
use Rattle.run_holders.specs.Holdings.{Holding, holdings, latest_in, new_holding}
use Rattle.run_holders.specs.LeftOver.{TakesNone, dropped_in, drops_in}
use Rattle.run_holders.proofs.HeldLines.{HoldsIn, drops_off, drops_other}
use Rattle.run_holders.proofs.HeldSeeing.{draws, judged_seen, settings_none, with_event, with_flight, with_given, with_record}

-- ---- what a node takes

record_other : (x y : Node) (r : Rec) (k e : ℕ) (hs : List Holding) → is_same_node x y ≡ false → HoldsIn hs k y e → HoldsIn (with_record x r hs) k y e
record_other x y (rec.Modreq q key) k e hs apart is = drops_other x y q.g e k q.items hs apart is
record_other x y r k e hs apart is = is

flight_other : (l : LinkId) (y : Node) (f : Flight) (k e : ℕ) (hs : List Holding) → is_same_node l.to y ≡ false → HoldsIn hs k y e → HoldsIn (with_flight l f hs) k y e
flight_other l y (flight.Ctl r) k e hs apart is = record_other l.to y r k e hs apart is
flight_other l y f k e hs apart is = is

record_off : (x y : Node) (r : Rec) (k e : ℕ) (hs : List Holding) → list_any (unsets k) (dropped_in r) ≡ false → HoldsIn hs k y e → HoldsIn (with_record x r hs) k y e
record_off x y (rec.Modreq q key) k e hs none is = drops_off x y q.g e k q.items hs none is
record_off x y r k e hs none is = is

flight_off : (l : LinkId) (y : Node) (f : Flight) (k e : ℕ) (hs : List Holding) → list_any (unsets k) (drops_in f) ≡ false → HoldsIn hs k y e → HoldsIn (with_flight l f hs) k y e
flight_off l y (flight.Ctl r) k e hs none is = record_off l.to y r k e hs none is
flight_off l y f k e hs none is = is

-- ---- what is drawn

-- the event sets up no bearer of which these are active
abbrev pub SetsUpNone : Actives → Event → Type 0
SetsUpNone b (event.Bearer id n first shape threshold policy) = b id ≡ None
SetsUpNone b _ = ⊤

new_off : (g id k e : ℕ) (y : Node) (hs : List Holding) → (id == k) ≡ false → HoldsIn hs k y e → HoldsIn (new_holding g id ∷ hs) k y e
new_off g id k e y hs other (h, at, holds) = (h, ap (λ (b : Bool). if b then Some (new_holding g id) else latest_in k hs) other ∙ at, holds)

drawn_holds : (p : Past) (e : Event) (y : Node) (b : Actives) → SetsUpNone b e → (k g : ℕ) → b k ≡ Some g → (hs : List Holding) → HoldsIn hs k y g → HoldsIn (draws (p.table.last + 1) (draft p.table e) hs) k y g
drawn_holds p (event.Bearer id n first shape threshold policy) y b none k g at hs is = by (id == k) refl
  where
    by : (d : Bool) → (id == k) ≡ d → HoldsIn (new_holding (p.table.last + 1) id ∷ hs) k y g
    by true same = absurd (let bad : None ≡ Some g = sym none ∙ ap b (eqb-true id k same) ∙ at in cc)
    by false other = new_off (p.table.last + 1) id k g y hs other is
drawn_holds p (event.Reshape id shape) y b none k g at hs is =
    subst (λ us. HoldsIn us k y g) (sym (settings_none (p.table.last + 1) p.table p.table.root p.table.second_key (λ r. shape) (filter (λ (r : Row). r.id == id) p.table.rows) hs)) is
drawn_holds p (event.Remove id) y b none k g at hs is = is
drawn_holds p (event.Add x) y b none k g at hs is = is
drawn_holds p event.Change y b none k g at hs is =
    subst (λ us. HoldsIn us k y g) (sym (settings_none (p.table.last + 1) p.table p.table.root (next_key p.table) (λ r. r.shape) (filter (λ (r : Row). not (is_mm r.shape)) p.table.rows) hs)) is
drawn_holds p event.Release y b none k g at hs is =
    subst (λ us. HoldsIn us k y g) (sym (settings_none (p.table.last + 1) p.table p.table.root p.table.second_key (λ r. mm) (filter (λ (r : Row). not (is_mm r.shape)) p.table.rows) hs)) is
drawn_holds p event.RekeySecond y b none k g at hs is =
    subst (λ us. HoldsIn us k y g) (sym (settings_none (p.table.last + 1) p.table p.table.root (next_key p.table) (λ r. r.shape) (filter (λ (r : Row). r.shape.at_second) p.table.rows) hs)) is
drawn_holds p (event.RekeyMaster octets) y b none k g at hs is =
    subst (λ us. HoldsIn us k y g) (sym (settings_none (p.table.last + 1) p.table (length p.table.roots) (second_key (length p.table.roots) 0) (λ r. r.shape) p.table.rows hs)) is
drawn_holds p (event.Recover id) y b none k g at hs is = is
drawn_holds p (event.Submit id d sdu) y b none k g at hs is = is
drawn_holds p (event.Report x id) y b none k g at hs is = is
drawn_holds p (event.Deny x on) y b none k g at hs is = is
drawn_holds p (event.Ask x w) y b none k g at hs is = is
drawn_holds p event.ScgFail y b none k g at hs is = is
drawn_holds p (event.Step l i) y b none k g at hs is = is
drawn_holds p (event.Lose l i) y b none k g at hs is = is
drawn_holds p (event.Again l i) y b none k g at hs is = is

-- ---- the event

-- what is found at a place of a link is on the link
abbrev FoundOn : LinkId → Option (LinkId × Flight) → Type 0
FoundOn l None = ⊤
FoundOn l (Some s) = s.0 ≡ l

found_on : (l : LinkId) (i : ℕ) (ss : List (LinkId × Flight)) → FoundOn l (find_at l i ss)
found_on l i ss = subst (FoundOn l) (sym (found_at l i ss)) (by _)
  where
    by : (o : Option Flight) → FoundOn l (option_map (λ f. (l, f)) o)
    by None = tt
    by (Some f) = refl

event_holds : (p : Past) (e : Event) (y : Node) (b : Actives) → SetsUpNone b e → TakesNone p y b e → (k g : ℕ) → b k ≡ Some g → HoldsIn (holdings p) k y g → HoldsIn (with_event p e (holdings p)) k y g
event_holds p (event.Step l i) y b none takes k g at is = by (find_at l i p.standing) refl (found_on l i p.standing)
  where
    by : (o : Option (LinkId × Flight)) → find_at l i p.standing ≡ o → FoundOn l o → HoldsIn (with_given o (holdings p)) k y g
    by None found there = is
    by (Some (m, f)) found there = left (takes f (found ∙ ap (λ (z : LinkId). Some (z, f)) there) k g at)
      where
        left : (is_same_node l.to y ≡ false) ⊎ (list_any (unsets k) (drops_in f) ≡ false) → HoldsIn (with_flight m f (holdings p)) k y g
        left (inl apart) = flight_other m y f k g (holdings p) (ap (λ (z : LinkId). is_same_node z.to y) there ∙ apart) is
        left (inr none') = flight_off m y f k g (holdings p) none' is
event_holds p (event.Bearer id n first shape threshold policy) y b none takes k g at is = drawn_holds p (event.Bearer id n first shape threshold policy) y b none k g at (holdings p) is
event_holds p (event.Reshape id shape) y b none takes k g at is = drawn_holds p (event.Reshape id shape) y b none k g at (holdings p) is
event_holds p (event.Remove id) y b none takes k g at is = drawn_holds p (event.Remove id) y b none k g at (holdings p) is
event_holds p (event.Add x) y b none takes k g at is = drawn_holds p (event.Add x) y b none k g at (holdings p) is
event_holds p event.Change y b none takes k g at is = drawn_holds p event.Change y b none k g at (holdings p) is
event_holds p event.Release y b none takes k g at is = drawn_holds p event.Release y b none k g at (holdings p) is
event_holds p event.RekeySecond y b none takes k g at is = drawn_holds p event.RekeySecond y b none k g at (holdings p) is
event_holds p (event.RekeyMaster octets) y b none takes k g at is = drawn_holds p (event.RekeyMaster octets) y b none k g at (holdings p) is
event_holds p (event.Recover id) y b none takes k g at is = drawn_holds p (event.Recover id) y b none k g at (holdings p) is
event_holds p (event.Submit id d sdu) y b none takes k g at is = drawn_holds p (event.Submit id d sdu) y b none k g at (holdings p) is
event_holds p (event.Report x id) y b none takes k g at is = drawn_holds p (event.Report x id) y b none k g at (holdings p) is
event_holds p (event.Deny x denies) y b none takes k g at is = drawn_holds p (event.Deny x denies) y b none k g at (holdings p) is
event_holds p (event.Ask x w) y b none takes k g at is = drawn_holds p (event.Ask x w) y b none k g at (holdings p) is
event_holds p event.ScgFail y b none takes k g at is = drawn_holds p event.ScgFail y b none k g at (holdings p) is
event_holds p (event.Lose l i) y b none takes k g at is = drawn_holds p (event.Lose l i) y b none k g at (holdings p) is
event_holds p (event.Again l i) y b none takes k g at is = drawn_holds p (event.Again l i) y b none k g at (holdings p) is

-- before its lines an event leaves held what a node holds, unless it sets the bearer up anew, or the node takes a record that drops it
pub judged_holds : (p : Past) (e : Event) (a : Answer) (y : Node) (b : Actives) → SetsUpNone b e → TakesNone p y b e → HoldsAll p y b → HoldsAll (judged e a p) y b
judged_holds p e answer.Ok y b none takes holds k g at =
    subst (λ hs. HoldsIn hs k y g) (sym (judged_seen e answer.Ok p)) (event_holds p e y b none takes k g at (holds k g at))
judged_holds p e (answer.No why) y b none takes holds k g at = subst (λ hs. HoldsIn hs k y g) (sym (judged_seen e (answer.No why) p)) (holds k g at)
