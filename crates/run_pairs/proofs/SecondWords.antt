-- What a secondary node says to the master as it acts: the words among what its acts send, and records without what they say of the traffic.
use Rattle.std.proofs.Common.{ℕ, ◌≡◌, ◌++◌, Bool, true, false, List, [], ◌∷◌, Option, Some, None, refl, sym, ap, ◌∙◌}
use Rattle.std.specs.Prelude.{Ok, if◌then◌else◌, map, ◌&&◌}
use Rattle.std.proofs.lemmas.List.Elements.{filter-append}
use Rattle.std.proofs.lemmas.Grind.{flat_map-append}
use Rattle.dc_base.specs.Links.{is_same_link, link}
use Rattle.dc_base.specs.Nodes.{is_same_node, is_secondary}
use Rattle.dc_base.specs.Records.{item_id}
use Rattle.dc_base.specs.declared.flights.Flight.TheVariants as flight
use Rattle.dc_base.specs.declared.nodes.Class.TheVariants.{Ctl}
use Rattle.dc_base.specs.declared.nodes.LinkId.{LinkId}
use Rattle.dc_base.specs.declared.nodes.Node.{Node}
use Rattle.dc_base.specs.declared.nodes.Node.TheVariants.{A, B, M, T}
use Rattle.dc_base.specs.declared.nodes.Want.{Want}
use Rattle.dc_base.specs.declared.records.Item.{Item}
use Rattle.dc_base.specs.declared.records.Plan.{Plan}
use Rattle.dc_base.specs.declared.records.Rec.{Rec}
use Rattle.dc_base.specs.declared.records.Rec.TheVariants as rec
use Rattle.dc_base.specs.declared.records.StatusTransfer.{StatusTransfer}
use Rattle.transcript.specs.Content.{on_link}
use Rattle.node_rules.specs.Choices.{Send}
use Rattle.node_rules.specs.Parts.{part_at}
use Rattle.node_rules.specs.SecondState.{SecondActs, SecondProc}
use Rattle.node_rules.specs.Secondary.{SecondNode, name_of}
use Rattle.node_rules.specs.declared.acts.Act.{Act}
use Rattle.node_rules.specs.declared.acts.Act.TheVariants.{FailOne as fail_one, Go as go, Pass as pass, Prepare as prepare, RecoverOne as recover_one, Say as say, Send as send, UnlockAll as unlock_all}
use Rattle.node_rules.specs.declared.commands.Membership.{Membership}
use Rattle.node_rules.specs.declared.inputs.Effects.{Effects}
use Rattle.node_rules.specs.declared.parts.Part.{Part}
use Rattle.node_rules.specs.declared.parts.Part.TheVariants.{Awaits as awaits, Drops as drops, Establishes as establishes, HandsOver as hands_over, HasNoAnchor as has_no_anchor, Renews as renews}
use Rattle.run_control.specs.Links.{sent_on}
use Rattle.run_control.specs.Rows.{has_row}
use Rattle.run_control.specs.SecondControl.{SecondProjects, Views, act_sends, act_view, acts_sends, bare_record, moved, part_sends, record_to, records_sent, sent_by_items, status_of, tells, tells_at, views_within, with_item}
use Rattle.run_control.specs.Views.{Stage, View, has_status, holds, is_awaited, lacks_status, second_view}
use Rattle.run_control.proofs.EventTurns.{TakesBusy}
use Rattle.run_control.proofs.Records.{records_append}
use Rattle.run_control.proofs.Sent.{either}
use Rattle.run_control.proofs.Taken.{records_in}
use Rattle.run_pairs.specs.Pairs.{is_word, words}
use Rattle.run_pairs.proofs.Serving.{IsHeardAs, kept_by, moved_by, agreeing, plainly, rejecting, said, said_by}

-- ---- what a secondary node sends to the master

-- the records among sends that are on its line
abbrev pub told_of : Node → List Send → List Rec
told_of x sends = records_in (sent_on (link x M Ctl) sends)

pub told_append : (x : Node) (xs ys : List Send) → told_of x (xs ++ ys) ≡ told_of x xs ++ told_of x ys
told_append x xs ys = ap records_in (flat_map-append (on_link (link x M Ctl)) xs ys) ∙ records_append (sent_on (link x M Ctl) xs) (sent_on (link x M Ctl) ys)

pub words_append : (xs ys : List Rec) → words (xs ++ ys) ≡ words xs ++ words ys
words_append xs ys = filter-append is_word xs ys

-- what is no word is none, wherever it is sent
pub silent : (x : Node) (k : LinkId) (r : Rec) → is_word r ≡ false → words (told_of x ((k, flight.Ctl r) ∷ [])) ≡ []
silent x k r none = by (is_same_link (link x M Ctl) k)
  where
    by : (b : Bool) → words (records_in ((if b then flight.Ctl r ∷ [] else []) ++ [])) ≡ []
    by true = ap (λ c. if c then r ∷ [] else []) none
    by false = refl

both_silent : (x : Node) (xs ys : List Send) → words (told_of x xs) ≡ [] → words (told_of x ys) ≡ [] → words (told_of x (xs ++ ys)) ≡ []
both_silent x xs ys p q = ap words (told_append x xs ys) ∙ words_append (told_of x xs) (told_of x ys) ∙ ap (λ rs. rs ++ words (told_of x ys)) p ∙ q

module _ (x : Node) (me : Node) where
  tells_silent_at : (k : Stage) (g : ℕ) (v : View) → words (told_of x (tells_at k (link me M Ctl) g v)) ≡ []
  tells_silent_at holds g v = silent x (link me M Ctl) (rec.Snst (status_of g v.bearer.id)) refl
  tells_silent_at lacks_status g v = refl
  tells_silent_at has_status g v = refl

  tells_silent : (g : ℕ) (o : Option View) → words (told_of x (tells (link me M Ctl) g o)) ≡ []
  tells_silent g None = refl
  tells_silent g (Some v) = tells_silent_at v.stage g v

  part_silent : (g : ℕ) (part : Part) (o : Option View) → words (told_of x (part_sends me g part o)) ≡ []
  part_silent g establishes o = refl
  part_silent g renews o = refl
  part_silent g awaits o = refl
  part_silent g (hands_over to) o = tells_silent g o
  part_silent g drops o = refl
  part_silent g has_no_anchor o = refl

  items_silent : (p : Plan) (is : List Item) (v : Views) → words (told_of x (sent_by_items me p is v)) ≡ []
  items_silent p [] v = refl
  items_silent p (i ∷ is) v =
      both_silent x (part_sends me p.g (part_at me p.sec i) (v (item_id i))) (sent_by_items me p is (with_item me p i v)) (part_silent p.g (part_at me p.sec i) (v (item_id i))) (items_silent p is (with_item me p i v))

  moved_silent : (status : StatusTransfer) (adopts : Bool) (o : Option View) → words (told_of x (moved me status adopts o)) ≡ []
  moved_silent status adopts None = refl
  moved_silent status adopts (Some v) =
      either (λ (xs : List Send). words (told_of x xs) ≡ []) (is_awaited status v && adopts) (record_to me M (rec.Moved v.bearer.g status.id) ∷ []) [] (silent x (link me M Ctl) (rec.Moved v.bearer.g status.id) refl) refl

pub told_send : (x to : Node) (r : Rec) → is_secondary x ≡ true → told_of x (record_to x to r ∷ []) ≡ (if is_same_node M to then bare_record r ∷ [] else [])
told_send T to r second = absurd cc
told_send M to r second = absurd cc
told_send A T r second = refl
told_send A M r second = refl
told_send A A r second = refl
told_send A B r second = refl
told_send B T r second = refl
told_send B M r second = refl
told_send B A r second = refl
told_send B B r second = refl

module _ (x : Node) (second : is_secondary x ≡ true) where
  act_words : (adopts : Bool) (a : Act) (v : Views) → words (told_of x (act_sends x adopts a v)) ≡ words (said_by a)
  act_words adopts (send to r) v = ap words (told_send x to r second)
  act_words adopts (prepare p) v = refl
  act_words adopts (go p) v = items_silent x x p p.items v
  act_words adopts (unlock_all g) v = refl
  act_words adopts (say n) v = refl
  act_words adopts (recover_one id) v = refl
  act_words adopts (fail_one id g) v = refl
  act_words adopts (pass status) v = moved_silent x x status adopts (v status.id)

  -- what acts send is what they say, and no other word
  acts_words : (acts : List (Bool × Act)) (v : Views) → words (told_of x (acts_sends x acts v)) ≡ words (said (map (λ (a : Bool × Act). a.1) acts))
  acts_words [] v = refl
  acts_words (a ∷ acts) v =
      ap words (told_append x (act_sends x a.0 a.1 v) (acts_sends x acts (act_view x a.0 a.1 v)))
      ∙ words_append (told_of x (act_sends x a.0 a.1 v)) (told_of x (acts_sends x acts (act_view x a.0 a.1 v)))
      ∙ ap (λ rs. rs ++ words (told_of x (acts_sends x acts (act_view x a.0 a.1 v)))) (act_words a.0 a.1 v)
      ∙ ap (λ rs. words (said_by a.1) ++ rs) (acts_words acts (act_view x a.0 a.1 v))
      ∙ sym (words_append (said_by a.1) (said (map (λ (a : Bool × Act). a.1) acts)))

  -- of a step
  pub projects_words : (s : SecondNode) (acts : SecondActs) (done : SecondNode × Effects) → name_of s ≡ x → TakesBusy s.proc (Ok acts) → SecondProjects s acts done → words (told_of x (records_sent done.1.sends)) ≡ words (said acts.1)
  projects_words s acts done named busy is =
      ap (λ sends. words (told_of x sends)) is.told
      ∙ ap (λ me. words (told_of x (acts_sends me is.chosen (views_within acts.0.membership (second_view s))))) (busy.0 ∙ named)
      ∙ acts_words is.chosen (views_within acts.0.membership (second_view s))
      ∙ ap (λ done_acts. words (said done_acts)) is.all

-- ---- records without what they say of the traffic

pub bare_row : (m : Membership) (w : Option Want) (r : Rec) → has_row m w (bare_record r) ≡ has_row m w r
bare_row m w (rec.Reconf plan key) = refl
bare_row m w (rec.Rcomp g) = refl
bare_row m w (rec.Scgf failed) = refl
bare_row m w (rec.Recov id) = refl
bare_row m w (rec.Recovd id) = refl
bare_row m w (rec.Addreq plan key) = refl
bare_row m w (rec.Addack g) = refl
bare_row m w (rec.Addrej g) = refl
bare_row m w (rec.Modreq plan key) = refl
bare_row m w (rec.Modack g) = refl
bare_row m w (rec.Modrej g) = refl
bare_row m w (rec.Recfg g) = refl
bare_row m w (rec.Relreq plan) = refl
bare_row m w (rec.Relack g) = refl
bare_row m w (rec.Relrej g) = refl
bare_row m w (rec.Uecr g) = refl
bare_row m w (rec.Snst status) = refl
bare_row m w (rec.Moved g id) = refl
bare_row m w (rec.Scgn id g) = refl
bare_row m w rec.Modrqd = refl
bare_row m w (rec.Modcnf g) = refl
bare_row m w (rec.Modref word) = refl
bare_row m w rec.Chgrqd = refl
bare_row m w (rec.Chgcnf plan) = refl
bare_row m w (rec.Chgref word) = refl
bare_row m w rec.Relrqd = refl
bare_row m w (rec.Relcnf plan) = refl

pub bare_heard : (s : SecondProc) (r : Rec) (acts : SecondActs) → IsHeardAs s r acts → IsHeardAs s (bare_record r) acts
bare_heard s (rec.Reconf plan key) acts is = is
bare_heard s (rec.Rcomp g) acts is = is
bare_heard s (rec.Scgf failed) acts is = is
bare_heard s (rec.Recov id) acts is = is
bare_heard s (rec.Recovd id) acts is = is
bare_heard s (rec.Addreq plan key) acts is = is
bare_heard s (rec.Addack g) acts is = is
bare_heard s (rec.Addrej g) acts is = is
bare_heard s (rec.Modreq plan key) acts is = is
bare_heard s (rec.Modack g) acts is = is
bare_heard s (rec.Modrej g) acts is = is
bare_heard s (rec.Recfg g) acts is = is
bare_heard s (rec.Relreq plan) acts is = is
bare_heard s (rec.Relack g) acts is = is
bare_heard s (rec.Relrej g) acts is = is
bare_heard s (rec.Uecr g) acts is = is
bare_heard s (rec.Snst status) acts (plainly plain member wanted told says (kept_by none same)) = plainly plain member wanted told says (kept_by none same)
bare_heard s (rec.Snst status) acts (plainly plain member wanted told says (moved_by mover still below forgets)) = absurd cc
bare_heard s (rec.Snst status) acts (rejecting first member wanted told says none) = absurd cc
bare_heard s (rec.Snst status) acts (agreeing first member wanted told says carried below) = absurd cc
bare_heard s (rec.Moved g id) acts is = is
bare_heard s (rec.Scgn id g) acts is = is
bare_heard s rec.Modrqd acts is = is
bare_heard s (rec.Modcnf g) acts is = is
bare_heard s (rec.Modref word) acts is = is
bare_heard s rec.Chgrqd acts is = is
bare_heard s (rec.Chgcnf plan) acts is = is
bare_heard s (rec.Chgref word) acts is = is
bare_heard s rec.Relrqd acts is = is
bare_heard s (rec.Relcnf plan) acts is = is
