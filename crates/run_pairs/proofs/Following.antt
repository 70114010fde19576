-- What a step of the master's procedures does to the pair of the master and a secondary node: one piece after another.
use Rattle.std.proofs.Common.{◌≡◌, ◌≤◌, ◌++◌, List, [], Option, refl, sym, ap, subst, ◌∙◌, append_assoc}
use Rattle.std.specs.Prelude.{Err, Ok, Result, filter}
use Rattle.std.specs.List.{AllByRecursion}
use Rattle.std.proofs.lemmas.List.{append-nil}
use Rattle.dc_base.specs.declared.nodes.Node.{Node}
use Rattle.dc_base.specs.declared.nodes.Want.{Want}
use Rattle.dc_base.specs.declared.records.Rec.{Rec}
use Rattle.transcript.proofs.OnEach.{each_append, each_weaker}
use Rattle.node_rules.specs.Acts.{ProcFault}
use Rattle.node_rules.specs.MasterEnds.{and_then}
use Rattle.node_rules.specs.MasterGo.{before_acts}
use Rattle.node_rules.specs.MasterState.{MasterActs, MasterProc}
use Rattle.node_rules.specs.declared.acts.Act.{Act}
use Rattle.node_rules.specs.declared.commands.Membership.{Membership}
use Rattle.run_control.specs.Claims.{IsStandOf, Stand, membership_by}
use Rattle.run_control.specs.MasterControl.{own_acts_view}
use Rattle.run_control.specs.Rows.{Reads}
use Rattle.run_control.specs.SecondControl.{Views}
use Rattle.run_pairs.specs.Apt.{IsApt}
use Rattle.run_pairs.specs.Fits.{AreFitting}
use Rattle.run_pairs.specs.Pairs.{IsLineOf, IsPair, IsWithin, Standing, asked_for, is_reply, standing, wants_in}
use Rattle.run_pairs.proofs.Lines.{reads_append, within_later}
use Rattle.run_pairs.proofs.Putting.{put, put_append}

-- ---- more on the line

-- what the node wants in the end, and that the records are read from one membership to the other
abbrev pub IsShifted : Standing → Standing → List Rec → Option Want → List Rec → Type 0
IsShifted v v' more w up = (w' : Option Want) × (v'.owed ++ asked_for up ≡ wants_in w') × Reads (membership_by v.secondary v.stand) w more (membership_by v'.secondary v'.stand) w'

-- the records more on the line lead from one standing to another
pub record IsMore (x : Node) (v v' : Standing) (more : List Rec) : Type 0 where
  pub shift : (w : Option Want) (up : List Rec) → v.owed ++ asked_for up ≡ wants_in w → IsShifted v v' more w up
  pub line : (down : List Rec) → IsLineOf v.stand down → AllByRecursion (IsWithin v.last) down → IsLineOf v'.stand (down ++ more)
  pub answers : (up : List Rec) → AllByRecursion (IsWithin v.last) up → filter (is_reply v.stand) up ≡ v.replies → filter (is_reply v'.stand) up ≡ v'.replies
  pub later : v.last ≤ v'.last
  pub within : AllByRecursion (IsWithin v'.last) more
  pub fits : (m : Membership) (w : Option Want) (at : Views) (down up all : List Rec) → IsPair v m w down up → AreFitting x v.bearing at down all → AreFitting x v'.bearing at (down ++ more) all

-- then the pair goes on
pub extended : (x : Node) (v v' : Standing) (more : List Rec) (m : Membership) (w : Option Want) (down up : List Rec) → IsMore x v v' more → IsPair v m w down up → IsPair v' m w (down ++ more) up
extended x v v' more m w down up is pair =
    let shift = is.shift pair.wants up pair.owes in
    record {
      wants = shift.0;
      owes = shift.1;
      reads = reads_append m w down (membership_by v.secondary v.stand) pair.wants more (membership_by v'.secondary v'.stand) shift.0 pair.reads shift.2;
      line = is.line down pair.line pair.down_within;
      answers = is.answers up pair.up_within pair.answers;
      down_within = each_append (IsWithin v'.last) down more (each_weaker (IsWithin v.last) (IsWithin v'.last) (within_later v.last v'.last is.later) down pair.down_within) is.within;
      up_within = each_weaker (IsWithin v.last) (IsWithin v'.last) (within_later v.last v'.last is.later) up pair.up_within;
    }

-- ---- acts

-- the acts lead from one standing to another, in whatever state the pair and the bearers are
abbrev pub Leads : Node → Standing → Standing → List Act → Type 0
Leads x v v' acts =
    (views : Views) (m : Membership) (w : Option Want) (at : Views) (down up all : List Rec) → IsPair v m w down up → AreFitting x v.bearing at down all
    → IsPair v' m w (down ++ put x acts views) up × AreFitting x v'.bearing at (down ++ put x acts views) all

-- by what they put on the line
pub leads_by : (x : Node) (v v' : Standing) (acts : List Act) → ((views : Views) → IsMore x v v' (put x acts views)) → Leads x v v' acts
leads_by x v v' acts is views m w at down up all pair fit = (extended x v v' (put x acts views) m w down up (is views) pair, (is views).fits m w at down up all pair fit)

-- by given records
pub leads_to : (x : Node) (v v' : Standing) (acts : List Act) (more : List Rec) → ((views : Views) → put x acts views ≡ more) → IsMore x v v' more → Leads x v v' acts
leads_to x v v' acts more same is = leads_by x v v' acts (λ views. subst (IsMore x v v') (sym (same views)) is)

-- by nothing
pub leads_none : (x : Node) (v : Standing) (acts : List Act) → ((views : Views) → put x acts views ≡ []) → Leads x v v acts
leads_none x v acts none views m w at down up all pair fit =
    subst (λ ds. IsPair v m w ds up × AreFitting x v.bearing at ds all) (sym (ap (λ rs. down ++ rs) (none views) ∙ append-nil down)) (pair, fit)

-- some and more
pub leads_then : (x : Node) (v v' v'' : Standing) (acts more : List Act) → Leads x v v' acts → Leads x v' v'' more → Leads x v v'' (acts ++ more)
leads_then x v v' v'' acts more first then' views m w at down up all pair fit =
    let one = first views m w at down up all pair fit in
    subst (λ ds. IsPair v'' m w ds up × AreFitting x v''.bearing at ds all)
    (append_assoc down (put x acts views) (put x more (own_acts_view acts views)) ∙ ap (λ rs. down ++ rs) (sym (put_append x acts more views)))
    (then' (own_acts_view acts views) m w at (down ++ put x acts views) up all one.0 one.1)

-- ---- a step

-- the procedures come to this state by these acts, and the pair goes on with them
pub record Follows (x : Node) (v : Standing) (r : MasterActs) : Type 0 where
  pub stand : Stand
  pub stands : IsStandOf x r.0.command stand
  pub apt : IsApt r.0
  pub leads : Leads x v (standing x r.0 stand) r.1

-- nothing is done
pub follows_still : (x : Node) (m : MasterProc) (s : Stand) → IsStandOf x m.command s → IsApt m → Follows x (standing x m s) (m, [])
follows_still x m s stands apt = record { stand = s; stands = stands; apt = apt; leads = leads_none x (standing x m s) [] (λ views. refl) }

-- from another standing
pub follows_from : (x : Node) (v v' : Standing) (r : MasterActs) → Leads x v v' [] → Follows x v' r → Follows x v r
follows_from x v v' r first is = record { stand = is.stand; stands = is.stands; apt = is.apt; leads = leads_then x v v' (standing x r.0 is.stand) [] r.1 first is.leads }

-- acts before others
pub before_follows : (x : Node) (v v' : Standing) (acts : List Act) (r : MasterActs) → Leads x v v' acts → Follows x v' r → Follows x v (before_acts acts r)
before_follows x v v' acts r first is = record { stand = is.stand; stands = is.stands; apt = is.apt; leads = leads_then x v v' (standing x r.0 is.stand) acts r.1 first is.leads }

-- one step after another
pub then_follows : (x : Node) (v : Standing) (r : MasterActs) (f : MasterProc → MasterActs) → Follows x v r → ((s : Stand) → IsStandOf x r.0.command s → IsApt r.0 → Follows x (standing x r.0 s) (f r.0)) → Follows x v (and_then r f)
then_follows x v r f is more = before_follows x v (standing x r.0 is.stand) r.1 (f r.0) is.leads (more is.stand is.stands is.apt)

-- ---- what is taken

-- or nothing, where it has no row
abbrev pub taken_or : MasterProc → Result MasterActs ProcFault → MasterActs
taken_or m (Ok r) = r
taken_or m (Err why) = (m, [])
