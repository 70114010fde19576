-- What the procedures of the master do keeps both tables the same.
use Rattle.std.proofs.Common.{ℕ, ◌≡◌, ◌++◌, ◌≤◌, ◌==◌, ◌&&◌, Bool, true, false, List, [], ◌∷◌, Option, Some, None, refl, sym, ap, ap₂, subst, ◌∙◌, append_assoc, inl, inr, arith}
use Rattle.std.specs.Prelude.{filter, fold, not}
use Rattle.std.specs.List.{AllByRecursion, list_any}
use Rattle.std.proofs.lemmas.Bool.{cases_Bool, eq-eqb}
use Rattle.dc_base.specs.Links.{link}
use Rattle.dc_base.specs.declared.events.Note.TheVariants as note
use Rattle.dc_base.specs.declared.flights.Flight.TheVariants as flight
use Rattle.dc_base.specs.declared.nodes.Class.TheVariants.{Ctl}
use Rattle.dc_base.specs.declared.nodes.Node.{Node}
use Rattle.dc_base.specs.declared.nodes.Node.TheVariants.{A, B, M, T}
use Rattle.dc_base.specs.declared.records.Plan.{Plan}
use Rattle.dc_base.specs.declared.records.Rec.TheVariants as rec
use Rattle.key_chain.specs.Book.{Claim}
use Rattle.key_chain.specs.KeyNames.{octets}
use Rattle.claims.specs.Carrying.{with_item}
use Rattle.claims.specs.Table as claims
use Rattle.claims.specs.Sameness.{is_same_octets, is_some_and}
use Rattle.claims.specs.Table.{command_has, is_change}
use Rattle.node_rules.specs.CommandTable.{Table, carried, master_key_of}
use Rattle.node_rules.specs.Effects.{both}
use Rattle.node_rules.specs.MasterGo.{before_acts, goes, leave_acts, moving_by}
use Rattle.node_rules.specs.MasterState.{MasterActs, MasterProc, with_waits}
use Rattle.node_rules.specs.declared.acts.Act.{Act}
use Rattle.node_rules.specs.declared.acts.Act.TheVariants.{FailOne as fail_one, Go as go, Pass as pass, Prepare as prepare, RecoverOne as recover_one, Say as say, Send as send, UnlockAll as unlock_all}
use Rattle.node_rules.specs.declared.commands.Change.{Change}
use Rattle.node_rules.specs.declared.commands.Command.TheVariants.{Gone as gone}
use Rattle.node_rules.specs.declared.commands.Going.{Going}
use Rattle.node_rules.specs.declared.commands.Leaving.{Leaving}
use Rattle.node_rules.specs.declared.commands.Leaving.TheVariants.{ByChangeConfirm as by_change_confirm, ByReleaseConfirm as by_release_confirm, ByRequest as by_request}
use Rattle.node_rules.specs.declared.commands.Row.{Row}
use Rattle.node_rules.specs.declared.commands.Way.{Way}
use Rattle.node_rules.specs.declared.inputs.Effects.{Effects}
use Rattle.run_table.specs.Orders.{OrderFits, before_order}
use Rattle.run_table.specs.Quiet.{said, said_by}
use Rattle.run_table.specs.SameTable.{Agree, Fits, IsDrawn, IsFor, SameRest}
use Rattle.run_table.specs.View.{View, carries, carries_if, carries_plan, carries_with, ends as ends_view}
use Rattle.run_table.specs.Words.{Ending, Words, begun_notes, by_words, done, ending_note, hears, is_order_sent, is_word, lines_in, no_words, notes_of, order_sends, over_notes}
use Rattle.run_table.specs.Words as words
use Rattle.run_table.proofs.Carried.{items_keep, same_carried}
use Rattle.run_table.proofs.Fitting.{claims_below, rows_below}
use Rattle.run_table.proofs.LineWords.{filter_append}

-- ---- what acts say

-- a status transfer is given to the master's own anchor
abbrev pub is_pass : Act → Bool
is_pass (send to r) = false
is_pass (prepare p) = false
is_pass (go p) = false
is_pass (unlock_all g) = false
is_pass (say n) = false
is_pass (recover_one id) = false
is_pass (fail_one id g) = false
is_pass (pass st) = true

none_passed : (xs ys : List Act) → list_any is_pass xs ≡ false → list_any is_pass ys ≡ false → list_any is_pass (xs ++ ys) ≡ false
none_passed [] ys none none' = none'
none_passed (x ∷ xs) ys none none' =
    elim (cases_Bool (is_pass x)) [
      | inl yes' ↦ let n = rw yes' at none in absurd cc
      | inr no' ↦ rw no' (none_passed xs ys (rw no' at none) none')
    ]

-- no word is among their notes, and no order among their sends
pub record IsWordless (acts : List Act) : Type 0 where
  pub notes : filter is_word (said acts).notes ≡ []
  pub orders : filter is_order_sent (said acts).sends ≡ []
  pub no_pass : list_any is_pass acts ≡ false

-- what the procedures have the master say is these words
pub record Speaks (w : Words) (acts : List Act) : Type 0 where
  pub notes : filter is_word (said acts).notes ≡ notes_of w
  pub orders : filter is_order_sent (said acts).sends ≡ order_sends w.order
  pub no_pass : list_any is_pass acts ≡ false

said_append : (xs ys : List Act) → said (xs ++ ys) ≡ both (said xs) (said ys)
said_append [] ys = refl
said_append (x ∷ xs) ys =
    ap (λ e. both (said_by x) e) (said_append xs ys)
    ∙ ap₂ (λ ns ss. record { notes = ns; sends = ss }) (sym (append_assoc (said_by x).notes (said xs).notes (said ys).notes)) (sym (append_assoc (said_by x).sends (said xs).sends (said ys).sends))

pub notes_said : (xs ys : List Act) → filter is_word (said (xs ++ ys)).notes ≡ filter is_word (said xs).notes ++ filter is_word (said ys).notes
notes_said xs ys = ap (λ (e : Effects). filter is_word e.notes) (said_append xs ys) ∙ filter_append is_word (said xs).notes (said ys).notes

pub orders_said : (xs ys : List Act) → filter is_order_sent (said (xs ++ ys)).sends ≡ filter is_order_sent (said xs).sends ++ filter is_order_sent (said ys).sends
orders_said xs ys = ap (λ (e : Effects). filter is_order_sent e.sends) (said_append xs ys) ∙ filter_append is_order_sent (said xs).sends (said ys).sends

-- nothing is said before
pub speaks_after : (w : Words) (acts more : List Act) → IsWordless acts → Speaks w more → Speaks w (acts ++ more)
speaks_after w acts more none s = record {
  notes = notes_said acts more ∙ ap (λ ns. ns ++ filter is_word (said more).notes) none.notes ∙ s.notes;
  orders = orders_said acts more ∙ ap (λ ss. ss ++ filter is_order_sent (said more).sends) none.orders ∙ s.orders;
  no_pass = none_passed acts more none.no_pass s.no_pass;
}

pub wordless_both : (xs ys : List Act) → IsWordless xs → IsWordless ys → IsWordless (xs ++ ys)
wordless_both xs ys none none' = record {
  notes = notes_said xs ys ∙ ap (λ ns. ns ++ filter is_word (said ys).notes) none.notes ∙ none'.notes;
  orders = orders_said xs ys ∙ ap (λ ss. ss ++ filter is_order_sent (said ys).sends) none.orders ∙ none'.orders;
  no_pass = none_passed xs ys none.no_pass none'.no_pass;
}

-- the words of an end, and then those of a command that begins by it
pub ended_words : (x : Ending) (w : Words) (acts more : List Act) → w.over ≡ None → IsWordless acts → Speaks w more
    → Speaks (record w { over = Some x }) ((acts ++ say (ending_note x) ∷ []) ++ more)
ended_words done w acts more none quiet' s =
    let here : filter is_word (said (acts ++ say note.Done ∷ [])).notes ≡ note.Done ∷ [] =
    notes_said acts (say note.Done ∷ []) ∙ ap (λ ns. ns ++ note.Done ∷ []) quiet'.notes in
    let sends : filter is_order_sent (said (acts ++ say note.Done ∷ [])).sends ≡ [] = orders_said acts (say note.Done ∷ []) ∙ ap (λ ss. ss ++ []) quiet'.orders in
    record {
      notes = notes_said (acts ++ say note.Done ∷ []) more ∙ ap₂ (λ ns ms. ns ++ ms) here (s.notes ∙ ap (λ o. over_notes o ++ begun_notes w.begun) none);
      orders = orders_said (acts ++ say note.Done ∷ []) more ∙ ap₂ (λ ns ms. ns ++ ms) sends s.orders;
      no_pass = none_passed (acts ++ say note.Done ∷ []) more (none_passed acts (say note.Done ∷ []) quiet'.no_pass refl) s.no_pass;
    }
ended_words words.rejected w acts more none quiet' s =
    let here : filter is_word (said (acts ++ say note.Rejected ∷ [])).notes ≡ note.Rejected ∷ [] =
    notes_said acts (say note.Rejected ∷ []) ∙ ap (λ ns. ns ++ note.Rejected ∷ []) quiet'.notes in
    let sends : filter is_order_sent (said (acts ++ say note.Rejected ∷ [])).sends ≡ [] = orders_said acts (say note.Rejected ∷ []) ∙ ap (λ ss. ss ++ []) quiet'.orders in
    record {
      notes = notes_said (acts ++ say note.Rejected ∷ []) more ∙ ap₂ (λ ns ms. ns ++ ms) here (s.notes ∙ ap (λ o. over_notes o ++ begun_notes w.begun) none);
      orders = orders_said (acts ++ say note.Rejected ∷ []) more ∙ ap₂ (λ ns ms. ns ++ ms) sends s.orders;
      no_pass = none_passed (acts ++ say note.Rejected ∷ []) more (none_passed acts (say note.Rejected ∷ []) quiet'.no_pass refl) s.no_pass;
    }

-- and what they do
pub ended_by : (x : Ending) (w : Words) (v : View) → w.over ≡ None → by_words (record w { over = Some x }) v ≡ by_words w (ends_view v)
ended_by done w v none = sym (ap (λ o. fold hears (ends_view v) (lines_in (over_notes o ++ begun_notes w.begun) (order_sends w.order))) none)
ended_by words.rejected w v none = sym (ap (λ o. fold hears (ends_view v) (lines_in (over_notes o ++ begun_notes w.begun) (order_sends w.order))) none)

-- ---- steps of the procedures

-- after a step the tables agree, once the view has heard its words; in the words no command ends
pub record Goes (v : View) (r : MasterActs) : Type 0 where
  pub words : Words
  pub speaks : Speaks words r.1
  pub agree : Agree (by_words words v) r.0
  pub fits : OrderFits (before_order words v) words.order

-- nothing is said, and all stays
abbrev pub stays : (v : View) (m : MasterProc) (acts : List Act) → IsWordless acts → Agree v m → Goes v (m, acts)
stays v m acts none agree = record { words = no_words; speaks = record { notes = none.notes; orders = none.orders; no_pass = none.no_pass }; agree = agree; fits = tt }

abbrev pub goes_after : (v : View) (acts : List Act) (r : MasterActs) → IsWordless acts → Goes v r → Goes v (before_acts acts r)
goes_after v acts r none g = record { words = g.words; speaks = speaks_after g.words acts r.1 none g.speaks; agree = g.agree; fits = g.fits }

-- a table that agrees whatever the open command of the claims is
pub but_command : (t : claims.Table) (m : Table) (k : Option claims.Command) → SameRest t m → SameRest (record t { command = k }) m
but_command t m k s =
    record { sec = s.sec; root = s.root; roots = s.roots; counters = s.counters; second_key = s.second_key; rows = s.rows; uses = s.uses; last = s.last }

-- no command is open any more
pub agree_ended : (v : View) (m : MasterProc) → Agree v m → Agree (ends_view v) (record m { command = None })
agree_ended v m a = record {
  same = record { rest = but_command v.table m.table None a.same.rest; command = tt };
  sound = record { placed = a.sound.placed; rows = a.sound.rows; claims = a.sound.claims; open_fits = tt };
}

-- the waiting of a request is no matter of the table
pub agree_waits : (v : View) (m : MasterProc) (w : Bool) (x : Node) → Agree v m → Agree v (with_waits w x m)
agree_waits v m w A a = record {
  same = record { rest = a.same.rest; command = a.same.command };
  sound = record { placed = a.sound.placed; rows = a.sound.rows; claims = a.sound.claims; open_fits = a.sound.open_fits };
}
agree_waits v m w B a = record {
  same = record { rest = a.same.rest; command = a.same.command };
  sound = record { placed = a.sound.placed; rows = a.sound.rows; claims = a.sound.claims; open_fits = a.sound.open_fits };
}
agree_waits v m w M a = a
agree_waits v m w T a = a

-- ---- a plan is carried out

module _ (v : View) (m : MasterProc) (c : Change) (k : claims.Command) (going : Going) (rest : SameRest v.table m.table) (is_open : v.table.command ≡ Some k)
    (is_drawn : IsDrawn v k c.plan.g false) (is_for : IsFor v k c) (fits : Fits m.table c)
    (rows : AllByRecursion (λ (r : Row). r.est ≤ m.table.last) m.table.rows) (claimed : AllByRecursion (λ (x : Claim). x.est ≤ m.table.last) m.table.book.claims) where
  abbrev after_it : View
  after_it = record v {
    table = record (fold (with_item c.plan.g) v.table c.plan.items) { sec = c.plan.sec; root = k.root; second_key = k.second_key; command = Some (record k { is_carried = true }) };
  }

  carried_is : carries c.plan.g v ≡ after_it
  carried_is =
      ap (λ o. carries_with c.plan.g o v) is_open
      ∙ ap (λ (x : claims.Kind). carries_if c.plan.g k (is_change c.plan.g x && not k.is_carried) v) is_drawn.kind
      ∙ ap (λ b. carries_if c.plan.g k ((c.plan.g == c.plan.g) && not b) v) is_drawn.carried
      ∙ ap (λ b. carries_if c.plan.g k (b && true) v) (eq-eqb c.plan.g c.plan.g refl)
      ∙ ap (λ o. carries_plan c.plan.g k o v) is_for.plan

  pub agree_carried : Agree (carries c.plan.g v) (record m { table = carried m.table c; command = Some (gone c.plan going) })
  agree_carried =
      let le : c.plan.g ≤ m.table.last = omega (arith, fits.last) in
      let last : (fold (with_item c.plan.g) v.table c.plan.items).last ≡ v.table.last = items_keep (λ x. x.last) c.plan.g (λ x rs us. refl) c.plan.items v.table in
      subst (λ u. Agree u (record m { table = carried m.table c; command = Some (gone c.plan going) })) (sym carried_is)
      (record {
        same = record {
          rest = same_carried v.table m.table c k.root k.second_key (Some (record k { is_carried = true })) rest fits.items is_for.root is_for.second_key;
          command = record { kind = is_drawn.kind; carried = refl; last = is_drawn.last ∙ sym last };
        };
        sound = record {
          placed = fits.placed;
          rows = rows_below m.table m.table.last c.plan.g le rows c.plan.sec c.plan.items m.table.rows rows;
          claims = claims_below m.table m.table.last c.plan.g le rows c.plan.items m.table.book.claims claimed;
          open_fits = fits.last;
        };
      })

leave_wordless : (o : Option Node) (told : Option Leaving) (p : Plan) → IsWordless (leave_acts o told p)
leave_wordless None told p = record { notes = refl; orders = refl; no_pass = refl }
leave_wordless (Some x) None p = record { notes = refl; orders = refl; no_pass = refl }
leave_wordless (Some x) (Some by_request) p = record { notes = refl; orders = refl; no_pass = refl }
leave_wordless (Some x) (Some by_change_confirm) p = record { notes = refl; orders = refl; no_pass = refl }
leave_wordless (Some x) (Some by_release_confirm) p = record { notes = refl; orders = refl; no_pass = refl }

-- the words of a plan that is carried out
abbrev order_words : Plan → List ℕ → Words
order_words p root = record { over = None; begun = None; order = Some (p, root) }

speaks_order : (p : Plan) (root : List ℕ) (acts : List Act) → IsWordless acts → Speaks (order_words p root) (send T (rec.Reconf p root) ∷ go p ∷ acts)
speaks_order p root acts none = record { notes = none.notes; orders = ap (λ ss. (link M T Ctl, flight.Ctl (rec.Reconf p root)) ∷ ss) none.orders; no_pass = none.no_pass }

-- a step in whose words no command ends and none begins for a secondary node
pub record Opened (v : View) (r : MasterActs) : Type 0 where
  pub goes : Goes v r
  pub over : goes.words.over ≡ None
  pub begun : goes.words.begun ≡ None

same_octets : (xs : List ℕ) → is_same_octets xs xs ≡ true
same_octets [] = refl
same_octets (x ∷ xs) = rw (eq-eqb x x refl) (same_octets xs)

-- the octets of its root are those of the root that is current then
keyed_so : (v : View) (m : MasterProc) (c : Change) (k : claims.Command) → SameRest v.table m.table → v.table.command ≡ Some k → IsDrawn v k c.plan.g false → IsFor v k c
    → command_has (λ x. is_change c.plan.g x.kind && is_same_octets (octets m.table.book.roots (master_key_of c.root)) (octets v.table.roots (claims.master_key x.root))) v.table ≡ true
keyed_so v m c k rest is_open is_drawn is_for =
    let g = c.plan.g in
    let root = octets m.table.book.roots (master_key_of c.root) in
    ap (λ o. is_some_and (λ (x : claims.Command). is_change g x.kind && is_same_octets root (octets v.table.roots (claims.master_key x.root))) o) is_open
    ∙ ap (λ (x : claims.Kind). is_change g x && is_same_octets root (octets v.table.roots (claims.master_key k.root))) is_drawn.kind
    ∙ ap (λ b. b && is_same_octets root (octets v.table.roots (claims.master_key k.root))) (eq-eqb g g refl)
    ∙ ap₂ (λ rs r. is_same_octets root (octets rs (claims.master_key r))) rest.roots is_for.root ∙ same_octets root

pub carried_on : (v : View) (m : MasterProc) (c : Change) (k : claims.Command) (w : Way) → SameRest v.table m.table → v.table.command ≡ Some k → IsDrawn v k c.plan.g false → IsFor v k c
    → Fits m.table c → AllByRecursion (λ (r : Row). r.est ≤ m.table.last) m.table.rows → AllByRecursion (λ (x : Claim). x.est ≤ m.table.last) m.table.book.claims → Opened v (goes m c w)
carried_on v m c k w rest is_open is_drawn is_for fits rows claimed =
    let going : Going = record { complete = false; due = w.due; confirms = w.confirms; leaving = w.leaving; moving = moving_by c.plan } in
    let root = octets m.table.book.roots (master_key_of c.root) in
    record {
      goes = record {
        words = order_words c.plan root;
        speaks = speaks_order c.plan root (leave_acts w.leaving w.told c.plan) (leave_wordless w.leaving w.told c.plan);
        agree = agree_carried v m c k going rest is_open is_drawn is_for fits rows claimed;
        fits = record { drawn = is_for.plan; later = fits.later; keyed = keyed_so v m c k rest is_open is_drawn is_for };
      };
      over = refl;
      begun = refl;
    }
