-- What is kept of a past, after an event with its answer.
use Rattle.std.proofs.Common.{◌≡◌, ℕ, Bool, true, false, List, [], ◌∷◌, Option, Some, None, refl, ap, ◌∙◌}
use Rattle.std.specs.Option.{option_map}
use Rattle.std.specs.Prelude.{fold, is_some, map}
use Rattle.dc_base.specs.declared.answers.Answer.{Answer}
use Rattle.dc_base.specs.declared.answers.Answer.TheVariants as answer
use Rattle.dc_base.specs.declared.answers.Refusal.{Refusal}
use Rattle.dc_base.specs.declared.answers.Refusal.TheVariants as refusal
use Rattle.dc_base.specs.declared.events.Event.{Event}
use Rattle.dc_base.specs.declared.events.Event.TheVariants as event
use Rattle.dc_base.specs.declared.flights.Flight.{Flight}
use Rattle.dc_base.specs.declared.flights.Flight.TheVariants as flight
use Rattle.dc_base.specs.declared.nodes.Dir.{Dir}
use Rattle.dc_base.specs.declared.nodes.Dir.TheVariants.{Dl, Ul}
use Rattle.dc_base.specs.declared.nodes.LinkId.{LinkId}
use Rattle.dc_base.specs.declared.nodes.Node.{Node}
use Rattle.dc_base.specs.declared.nodes.Node.TheVariants.{M}
use Rattle.dc_base.specs.declared.nodes.Want.TheVariants as want
use Rattle.dc_base.specs.declared.records.Rec.{Rec}
use Rattle.dc_base.specs.declared.records.Rec.TheVariants as rec
use Rattle.pdcp_pdu.specs.DataPdu.{is_data}
use Rattle.pdcp_pdu.specs.Pdu.{decoded}
use Rattle.claims.specs.Confirming.{Confirmation}
use Rattle.claims.specs.Judged.{accepted, aged, answered, calmed, fails, fails_in, forward_lost, has_scg_in, judged, leg_fails, lost_command, lost_if, own_lost, recovering, refused, trouble, troubled, with_submission}
use Rattle.claims.specs.Links.{find_at, without}
use Rattle.claims.specs.Packets.{packet_of}
use Rattle.claims.specs.Past.{Bearer, Past, lossy}
use Rattle.claims.specs.Reading.{Setting, bearer_of, holds, lane, on_latest, setting, with_lane}
use Rattle.claims.specs.Sameness.{kept_if}
use Rattle.claims.specs.Table.{Command}
use Rattle.claims.specs.Taking.{ack_taken, acked_count, confirmed_by, data_taken, delivered, delivered_to, direction_in, given_if, is_live, is_waiting, kept_count, kept_report, on_delivery, on_forward, on_pdu, on_record, on_set_pdu, pair_taken, pdu_taken, report_taken, taken_from, told_taken, warn, with_delivery}
use Rattle.claims.specs.Views.{Delivery, Pdu, delivery_in, forwarding_in, forwarding_of, owner_of, pdu_in, pdu_of, report_in}
use Rattle.checker_state.specs.Kept.{kept, kept_bearer, kept_command, kept_table}
use Rattle.checker_state.specs.Steps.{flight_at, kept_accepted, kept_answered, kept_drawn, kept_given, kept_judged, kept_record, kept_taken}
use Rattle.checker_state.proofs.KeptBearers.{change_unkept, changed_unkept, drops_with, if_kept, latest_unkept, latest_with, map_unkept}
use Rattle.checker_state.proofs.KeptLines.{change_second, drawn_kept, lane_unkept, with_bearers}

-- the bearers differ in nothing that is kept
same_but : (p : Past) (bs cs : List Bearer) → map kept_bearer bs ≡ map kept_bearer cs → kept (record p { bearers = bs }) ≡ kept (record p { bearers = cs })
same_but p bs cs same = ap (λ (xs : List Bearer). with_bearers xs (kept p)) same

-- ---- PDUs and acks

confirmed_unkept : (d : Dir) (cs : List Confirmation) (b : Bearer) → kept_bearer (confirmed_by d cs b) ≡ kept_bearer b
confirmed_unkept Ul cs b = refl
confirmed_unkept Dl cs b = refl

count_unkept : (is : Bool) (x : Node) (g : ℕ) (c : Option ℕ) (b : Bearer) → kept_bearer (kept_count is x g c b) ≡ kept_bearer b
count_unkept false x g c b = refl
count_unkept true x g None b = refl
count_unkept true x g (Some c) b = refl

report_unkept : (is : Bool) (x : Node) (g : ℕ) (c : Confirmation) (b : Bearer) → kept_bearer (kept_report is x g c b) ≡ kept_bearer b
report_unkept false x g c b = refl
report_unkept true x g c b = refl

data_unkept : (l : LinkId) (g : ℕ) (s : Setting) (d : Dir) (c : Option ℕ) (b : Bearer) → kept_bearer (data_taken l g s d c b) ≡ kept_bearer b
data_unkept l g s Dl c b = if_kept (is_live l g b) _ b (kept_bearer b) refl refl
data_unkept l g s Ul c b = if_kept (holds l.to g b.holder) _ _ (kept_bearer b) refl (count_unkept (is_waiting l.to g s b) l.to g c b)

report_taken_unkept : (l : LinkId) (g : ℕ) (s : Setting) (d : Dir) (o : Option Confirmation) (b : Bearer) → kept_bearer (report_taken l g s d o b) ≡ kept_bearer b
report_taken_unkept l g s d None b = refl
report_taken_unkept l g s Dl (Some c) b = if_kept (is_live l g b) _ b (kept_bearer b) refl refl
report_taken_unkept l g s Ul (Some c) b = if_kept (holds l.to g b.holder) _ _ (kept_bearer b) refl (report_unkept (is_waiting l.to g s b) l.to g c b)

pdu_unkept : (l : LinkId) (u : Pdu) (s : Setting) (b : Bearer) → kept_bearer (pdu_taken l u s b) ≡ kept_bearer b
pdu_unkept l u s b =
    if_kept (is_data u.octets) _ _ (kept_bearer b) (data_unkept l u.g s (direction_in l s) u.tag b)
    (report_taken_unkept l u.g s (direction_in l s) (report_in (decoded b.n u.octets)) b)

set_pdu_kept : (l : LinkId) (u : Pdu) (p : Past) (o : Option Setting) → kept (on_set_pdu l u p o) ≡ kept p
set_pdu_kept l u p None = refl
set_pdu_kept l u p (Some s) = same_but p _ p.bearers (change_unkept p u.id u.g (pdu_taken l u s) (pdu_unkept l u s))

on_pdu_kept : (l : LinkId) (o : Option Pdu) (p : Past) → kept (on_pdu l o p) ≡ kept p
on_pdu_kept l None p = refl
on_pdu_kept l (Some u) p = set_pdu_kept l u p (setting p u.id u.g)

ack_unkept : (l : LinkId) (g : ℕ) (o : Option ℕ) (b : Bearer) → kept_bearer (ack_taken l g o b) ≡ kept_bearer b
ack_unkept l g None b = refl
ack_unkept l g (Some c) b = if_kept (holds l.to g b.holder) _ b (kept_bearer b) refl refl

delivered_kept : (is : Bool) (l : LinkId) (v : Delivery) (b : Bearer) (p : Past) → kept (delivered is l v b p) ≡ kept p
delivered_kept false l v b p = refl
delivered_kept true l v b p = same_but p _ p.bearers (changed_unkept (with_delivery v _ _) p.bearers (Some b) (λ c. refl))

delivered_to_kept : (l : LinkId) (v : Delivery) (p : Past) (o : Option Bearer) → kept (delivered_to l v p o) ≡ kept p
delivered_to_kept l v p None = refl
delivered_to_kept l v p (Some b) = delivered_kept (holds l.to v.g b.holder) l v b p

delivery_kept : (l : LinkId) (o : Option Delivery) (p : Past) → kept (on_delivery l o p) ≡ kept p
delivery_kept l None p = refl
delivery_kept l (Some v) p = delivered_to_kept l v p (bearer_of p v.id v.g)

forward_kept : (l : LinkId) (f : Flight) (is : Bool) (p : Past) → kept (on_forward l f is p) ≡ kept p
forward_kept l f false p = refl
forward_kept l f true p = refl

told_unkept : (c : ℕ) (b : Bearer) → kept_bearer (told_taken c b) ≡ kept_bearer b
told_unkept c b = if_kept b.is_gone b _ (kept_bearer b) refl refl

-- ---- records

pairs_kept : (p : Past) (pairs : List (ℕ × ℕ)) (bs : List Bearer) → map kept_bearer (fold (pair_taken p) bs pairs) ≡ map kept_bearer bs
pairs_kept p [] bs = refl
pairs_kept p (x ∷ pairs) bs =
    pairs_kept p pairs (pair_taken p bs x) ∙ changed_unkept (warn M x.1) bs (kept_if (λ b. _) (bearer_of p x.0 x.1)) (λ b. refl)

on_record_kept : (l : LinkId) (r : Rec) (p : Past) → kept (on_record l r p) ≡ kept_record l r (kept p)
on_record_kept l (rec.Reconf q key) p = refl
on_record_kept l (rec.Rcomp g) p = refl
on_record_kept l (rec.Scgf pairs) p = same_but p _ p.bearers (pairs_kept p pairs p.bearers)
on_record_kept l (rec.Recov id) p = refl
on_record_kept l (rec.Recovd id) p = refl
on_record_kept l (rec.Addreq q key) p = refl
on_record_kept l (rec.Addack g) p = refl
on_record_kept l (rec.Addrej g) p = refl
on_record_kept l (rec.Modreq q key) p = ap (λ (xs : List Bearer). with_bearers xs (kept p)) (drops_with l.to q.g q.items p.bearers)
on_record_kept l (rec.Modack g) p = refl
on_record_kept l (rec.Modrej g) p = refl
on_record_kept l (rec.Recfg g) p = refl
on_record_kept l (rec.Relreq q) p = refl
on_record_kept l (rec.Relack g) p = refl
on_record_kept l (rec.Relrej g) p = refl
on_record_kept l (rec.Uecr g) p = refl
on_record_kept l (rec.Snst s) p = refl
on_record_kept l (rec.Moved g id) p = refl
on_record_kept l (rec.Scgn id g) p = same_but p _ p.bearers (change_unkept p id g (warn l.to g) (λ b. refl))
on_record_kept l rec.Modrqd p = change_second l.from (λ s. record s { request = Some want.Rekey }) p
on_record_kept l (rec.Modcnf g) p = refl
on_record_kept l (rec.Modref w) p = refl
on_record_kept l rec.Chgrqd p = change_second l.from (λ s. record s { request = Some want.Change }) p
on_record_kept l (rec.Chgcnf q) p = refl
on_record_kept l (rec.Chgref w) p = refl
on_record_kept l rec.Relrqd p = change_second l.from (λ s. record s { request = Some want.Release }) p
on_record_kept l (rec.Relcnf q) p = refl

-- ---- flights

taken_kept : (l : LinkId) (f : Flight) (p : Past) → kept (taken_from l f p) ≡ kept_taken l f (kept p)
taken_kept l (flight.Air id g num tag pdu) p = on_pdu_kept l (pdu_of (flight.Air id g num tag pdu)) p
taken_kept l (flight.Ack id g num) p =
    same_but p _ p.bearers (change_unkept p id g (ack_taken l g (acked_count l id g num p)) (ack_unkept l g (acked_count l id g num p)))
taken_kept l (flight.Tun tag packet) p =
    let view = packet_of packet in
    let q = on_pdu l (pdu_in tag view) p in
    forward_kept l (flight.Tun tag packet) (is_some (forwarding_in view)) (on_delivery l (delivery_in tag view) q)
    ∙ delivery_kept l (delivery_in tag view) q ∙ on_pdu_kept l (pdu_in tag view) p
taken_kept l (flight.Sdu id g sdu) p = refl
taken_kept l (flight.End id g) p = refl
taken_kept l (flight.Told id g count) p = same_but p _ p.bearers (change_unkept p id g (told_taken count) (told_unkept count))
taken_kept l (flight.Ctl r) p = on_record_kept l r p

given_kept : (o : Option (LinkId × Flight)) (p : Past) → kept (given_if o p) ≡ kept_given o (kept p)
given_kept None p = refl
given_kept (Some s) p = taken_kept s.0 s.1 (record p { given = Some s })

-- ---- losses and failures

trouble_kept : (bs : List Bearer) → map kept_bearer (trouble bs) ≡ map kept_bearer bs
trouble_kept bs = map_unkept (λ (b : Bearer). record b { calm = troubled b.calm }) bs (λ b. refl)

own_kept : (o : Option (ℕ × ℕ)) (p : Past) → kept (own_lost o p) ≡ kept p
own_kept None p = refl
own_kept (Some x) p = same_but p _ p.bearers (change_unkept p x.0 x.1 (λ b. record b { calm = lossy }) (λ b. refl))

lost_command_kept : (g : ℕ) (o : Option Command) → option_map kept_command (lost_command g o) ≡ option_map kept_command o
lost_command_kept g None = refl
lost_command_kept g (Some c) = refl

forward_lost_kept : (o : Option (ℕ × ℕ)) (p : Past) → kept (forward_lost o p) ≡ kept p
forward_lost_kept None p = refl
forward_lost_kept (Some x) p =
    ap (λ (xs : List Bearer). record (kept p) { bearers = xs; table = record (kept_table p.table) { command = option_map kept_command (lost_command x.1 p.table.command) } })
    (change_unkept p x.0 x.1 (λ b. record b { lost_forward = true }) (λ b. refl))
    ∙ ap (λ (o : Option Command). record (kept p) { table = record (kept_table p.table) { command = o } }) (lost_command_kept x.1 p.table.command)

lost_kept : (o : Option (LinkId × Flight)) (p : Past) → kept (lost_if o p) ≡ kept p
lost_kept None p = refl
lost_kept (Some s) p =
    let q = record p { bearers = trouble p.bearers } in
    forward_lost_kept (forwarding_of s.1) (own_lost (owner_of s.1) q) ∙ own_kept (owner_of s.1) q ∙ same_but p (trouble p.bearers) p.bearers (trouble_kept p.bearers)

leg_unkept : (is : Bool) (b : Bearer) → kept_bearer (leg_fails is b) ≡ kept_bearer b
leg_unkept false b = refl
leg_unkept true b = refl

fails_in_unkept : (p : Past) (b : Bearer) (o : Option ℕ) → kept_bearer (fails_in p b o) ≡ kept_bearer b
fails_in_unkept p b None = refl
fails_in_unkept p b (Some g) = leg_unkept (has_scg_in (setting p b.id g)) b

-- ---- events

recovering_kept : (id : ℕ) (p : Past) → kept (recovering id p) ≡ Rattle.checker_state.specs.Steps.kept_recovering id (kept p)
recovering_kept id p =
    ap (λ (xs : List Bearer). with_bearers xs (Rattle.checker_state.specs.Steps.kept_recovering id (kept p)))
    (latest_unkept id (λ b. record b { calm = calmed b.calm }) p.bearers (λ b. refl))

accepted_kept : (e : Event) (p : Past) → kept (accepted e p) ≡ kept_accepted e (flight_at e p) (kept p)
accepted_kept (event.Bearer id n first shape threshold policy) p = drawn_kept (event.Bearer id n first shape threshold policy) None p
accepted_kept (event.Reshape id shape) p = drawn_kept (event.Reshape id shape) None p
accepted_kept (event.Remove id) p =
    drawn_kept (event.Remove id) None (record p { bearers = on_latest id (λ b. record b { is_dropped = true }) p.bearers })
    ∙ ap (λ (xs : List Bearer). kept_drawn (event.Remove id) None (with_bearers xs (kept p)))
    (latest_with id (λ b. record b { is_dropped = true }) (λ b. record b { is_dropped = true }) p.bearers (λ b. refl))
accepted_kept (event.Add x) p = drawn_kept (event.Add x) None p
accepted_kept event.Change p = drawn_kept event.Change None p
accepted_kept event.Release p = drawn_kept event.Release None p
accepted_kept event.RekeySecond p = drawn_kept event.RekeySecond None p
accepted_kept (event.RekeyMaster root) p = drawn_kept (event.RekeyMaster root) None p
accepted_kept (event.Recover id) p = recovering_kept id p
accepted_kept (event.Report x id) p = refl
accepted_kept (event.Deny x on) p = change_second x (λ s. record s { denies = on }) p
accepted_kept (event.Ask x w) p = change_second x (λ s. record s { wants = Some w }) p
accepted_kept event.ScgFail p =
    same_but p _ p.bearers (trouble_kept (map (fails p) p.bearers) ∙ map_unkept (fails p) p.bearers (λ b. fails_in_unkept p b b.terminal))
accepted_kept (event.Submit id d sdu) p =
    same_but p _ p.bearers (latest_unkept id (λ b. with_lane d (with_submission sdu (lane d b)) b) p.bearers (λ b. lane_unkept d b _))
accepted_kept (event.Step l i) p = given_kept (find_at l i p.standing) (record p { standing = without l i p.standing })
accepted_kept (event.Lose l i) p = lost_kept (find_at l i p.standing) (record p { standing = without l i p.standing })
accepted_kept (event.Again l i) p = refl

aged_kept : (e : Event) (p : Past) → kept (aged e p) ≡ kept p
aged_kept (event.Bearer id n first shape threshold policy) p = refl
aged_kept (event.Reshape id shape) p = refl
aged_kept (event.Remove id) p = refl
aged_kept (event.Add x) p = refl
aged_kept event.Change p = refl
aged_kept event.Release p = refl
aged_kept event.RekeySecond p = refl
aged_kept (event.RekeyMaster root) p = refl
aged_kept (event.Recover id) p = refl
aged_kept (event.Report x id) p = refl
aged_kept (event.Deny x on) p = refl
aged_kept (event.Ask x w) p = refl
aged_kept event.ScgFail p = refl
aged_kept (event.Submit id d sdu) p = refl
aged_kept (event.Step l i) p = refl
aged_kept (event.Lose l i) p = refl
aged_kept (event.Again l i) p = refl

refused_kept : (why : Refusal) (e : Event) (p : Past) → kept (refused why e p) ≡ kept p
refused_kept refusal.NoBearer e p = refl
refused_kept refusal.BearerThere e p = refl
refused_kept refusal.Busy e p = refl
refused_kept refusal.NoSecondary e p = refl
refused_kept refusal.SecondaryThere e p = refl
refused_kept refusal.SameShape e p = refl
refused_kept refusal.IdSpent e p = refl
refused_kept refusal.CounterSpent e p = refl
refused_kept refusal.RootUsed e p = refl
refused_kept refusal.NoFlight e p = refl
refused_kept refusal.NotFirst e p = refl
refused_kept refusal.NotTunnel e p = refl
refused_kept refusal.Aged e p = aged_kept e p
refused_kept refusal.Full e p = refl
refused_kept refusal.Exhausted e p = refl
refused_kept refusal.NoPolicy e p = refl

at_now : (e f : Event) (a : Answer) (p : Past)
    → flight_at f (record p { earlier = p.pdus; event = e; answer = a; given = None; copied = None; fresh = []; said = [] }) ≡ flight_at f p
at_now e (event.Bearer id n first shape threshold policy) a p = refl
at_now e (event.Reshape id shape) a p = refl
at_now e (event.Remove id) a p = refl
at_now e (event.Add x) a p = refl
at_now e event.Change a p = refl
at_now e event.Release a p = refl
at_now e event.RekeySecond a p = refl
at_now e (event.RekeyMaster root) a p = refl
at_now e (event.Recover id) a p = refl
at_now e (event.Report x id) a p = refl
at_now e (event.Deny x on) a p = refl
at_now e (event.Ask x w) a p = refl
at_now e event.ScgFail a p = refl
at_now e (event.Submit id d sdu) a p = refl
at_now e (event.Step l i) a p = refl
at_now e (event.Lose l i) a p = refl
at_now e (event.Again l i) a p = refl

answered_kept : (e : Event) (a : Answer) (p : Past) → kept (answered e a p) ≡ kept_answered e a (flight_at e p) (kept p)
answered_kept e answer.Ok p = accepted_kept e p
answered_kept e (answer.No why) p = refused_kept why e p

-- what is kept before the lines of an event
pub judged_kept : (e : Event) (a : Answer) (p : Past) → kept (judged e a p) ≡ kept_judged e a (flight_at e p) (kept p)
judged_kept e a p =
    let q = record p { earlier = p.pdus; event = e; answer = a; given = None; copied = None; fresh = []; said = [] } in
    answered_kept e a q ∙ ap (λ x. kept_answered e a x (kept q)) (at_now e e a p)
