-- Each step of the terminal suits the past; and what an event does by itself leaves held what other nodes hold than the one that takes
-- its input.
use Rattle.std.proofs.Common.{ℕ, ◌≡◌, ◌∙◌, Bool, true, false, List, [], ◌∷◌, Option, Some, None, refl, sym, ap, subst, inl}
use Rattle.std.specs.List.{AllByRecursion}
use Rattle.std.specs.Prelude.{if◌then◌else◌, nat_lt, slice_get, ⊤, ◌&&◌}
use Rattle.dc_base.specs.Links.{is_ordered}
use Rattle.dc_base.specs.Nodes.{is_same_node}
use Rattle.dc_base.specs.declared.answers.Refusal.TheVariants as refusal
use Rattle.dc_base.specs.declared.events.Event.{Event}
use Rattle.dc_base.specs.declared.events.Event.TheVariants as event
use Rattle.dc_base.specs.declared.events.Line.{Line}
use Rattle.dc_base.specs.declared.events.Line.TheVariants as line
use Rattle.dc_base.specs.declared.events.Note.{Note}
use Rattle.dc_base.specs.declared.events.Note.TheVariants as note
use Rattle.dc_base.specs.declared.flights.Flight.{Flight}
use Rattle.dc_base.specs.declared.flights.Flight.TheVariants as flight
use Rattle.dc_base.specs.declared.nodes.Dir.TheVariants.{Dl, Ul}
use Rattle.dc_base.specs.declared.nodes.LinkId.{LinkId}
use Rattle.dc_base.specs.declared.nodes.Node.{Node}
use Rattle.dc_base.specs.declared.nodes.Node.TheVariants.{M, T}
use Rattle.dc_base.specs.declared.records.Rec.TheVariants as rec
use Rattle.node_rules.specs.Choices.{Choices, Send}
use Rattle.node_rules.specs.Flights.{weight}
use Rattle.node_rules.specs.Lines.{lines_of}
use Rattle.node_rules.specs.Readers.{is_aged_for}
use Rattle.node_rules.specs.Run.{Happening, carried_on, given_to, happening, node_at, on_links, refused_for, step_of}
use Rattle.node_rules.specs.World.{World, flights_on}
use Rattle.node_rules.specs.declared.inputs.Input.{Input}
use Rattle.node_rules.specs.declared.inputs.Input.TheVariants.{Come}
use Rattle.claims.specs.Judged.{judged}
use Rattle.claims.specs.Noted.{noted}
use Rattle.claims.specs.Past.{Past}
use Rattle.run_table.specs.Words.{orders}
use Rattle.run_words.proofs.Lines.{each_line_of}
use Rattle.run_holders.specs.Actives.{Actives, LineFits, LinesFit, line_actives}
use Rattle.run_holders.specs.Fitting.{AllSuit, HoldsAll, IsApart, Suits}
use Rattle.run_holders.specs.Suited.{IsSuited, actives_at}
use Rattle.run_holders.proofs.HeldLines.{OrdersAsMaster}
use Rattle.run_holders.specs.LeftOver.{TakesNone}
use Rattle.run_holders.proofs.JudgedHolds.{SetsUpNone, judged_holds}
use Rattle.run_holders.proofs.Runs.{by_terminal}
use Rattle.run_senders.proofs.TerminalKinds.{terminal_kinds}
use Rattle.dc_base.specs.declared.answers.Answer.{Answer}
use Rattle.run_holders.proofs.TerminalIdle.{AreIdle, is_idle, terminal_idle}

-- ---- who takes the input of an event

-- the node, if one does
abbrev pub taker : Happening → Option Node
taker (given_to x i) = Some x
taker (refused_for why) = None
taker (on_links effects) = None

same_some : (x y : Node) → Some x ≡ Some y → x ≡ y
same_some x y is = ap or_else is
  where
    or_else : Option Node → Node
    or_else None = x
    or_else (Some z) = z

-- of a step the receiver of the link
step_taker : (w : World) (l : LinkId) (i : ℕ) (o : Option Flight) (x : Node) → taker (step_of w l i o) ≡ Some x → l.to ≡ x
step_taker w l i None x is = absurd (let bad : None ≡ Some x = is in cc)
step_taker w l i (Some f) x is = by (is_ordered l.class && nat_lt 0 i) (is_aged_for (node_at w l.to) (weight f)) is
  where
    by : (a b : Bool) → taker (if a then refused_for refusal.NotFirst else if b then refused_for refusal.Aged else given_to l.to (Come l f)) ≡ Some x → l.to ≡ x
    by true b e = absurd (let bad : None ≡ Some x = e in cc)
    by false true e = absurd (let bad : None ≡ Some x = e in cc)
    by false false e = same_some l.to x e

pub takes_apart : (p : Past) (w : World) (e : Event) (x y : Node) (b : Actives) → taker (happening w e) ≡ Some x → is_same_node x y ≡ false → TakesNone p y b e
takes_apart p w (event.Step l i) x y b is apart = λ f found k g at. inl (ap (λ z. is_same_node z y) (step_taker w l i (slice_get (flights_on l w.links) i) x is) ∙ apart)
takes_apart p w (event.Bearer id n first shape threshold policy) x y b is apart = tt
takes_apart p w (event.Reshape id shape) x y b is apart = tt
takes_apart p w (event.Remove id) x y b is apart = tt
takes_apart p w (event.Add node) x y b is apart = tt
takes_apart p w event.Change x y b is apart = tt
takes_apart p w event.Release x y b is apart = tt
takes_apart p w event.RekeySecond x y b is apart = tt
takes_apart p w (event.RekeyMaster octets) x y b is apart = tt
takes_apart p w (event.Recover id) x y b is apart = tt
takes_apart p w (event.Submit id d sdu) x y b is apart = tt
takes_apart p w (event.Report node id) x y b is apart = tt
takes_apart p w (event.Deny node denies) x y b is apart = tt
takes_apart p w (event.Ask node what) x y b is apart = tt
takes_apart p w event.ScgFail x y b is apart = tt
takes_apart p w (event.Lose l i) x y b is apart = tt
takes_apart p w (event.Again l i) x y b is apart = tt

-- only the master sets bearers up
pub sets_none : (w : World) (e : Event) (x : Node) (b : Actives) → taker (happening w e) ≡ Some x → is_same_node x M ≡ false → SetsUpNone b e
sets_none w (event.Bearer id n first shape threshold policy) x b is apart = absurd (let bad : true ≡ false = ap (λ z. is_same_node z M) (same_some M x is) ∙ apart in cc)
sets_none w (event.Reshape id shape) x b is apart = tt
sets_none w (event.Remove id) x b is apart = tt
sets_none w (event.Add node) x b is apart = tt
sets_none w event.Change x b is apart = tt
sets_none w event.Release x b is apart = tt
sets_none w event.RekeySecond x b is apart = tt
sets_none w (event.RekeyMaster octets) x b is apart = tt
sets_none w (event.Recover id) x b is apart = tt
sets_none w (event.Submit id d sdu) x b is apart = tt
sets_none w (event.Report node id) x b is apart = tt
sets_none w (event.Deny node denies) x b is apart = tt
sets_none w (event.Ask node what) x b is apart = tt
sets_none w event.ScgFail x b is apart = tt
sets_none w (event.Lose l i) x b is apart = tt
sets_none w (event.Again l i) x b is apart = tt
sets_none w (event.Step l i) x b is apart = tt

-- what other nodes hold stays so before the lines, where another node than the master takes the input
pub others_before : (p : Past) (w : World) (e : Event) (x : Node) (i : Input) → happening w e ≡ given_to x i → is_same_node x M ≡ false → (a : Answer) (y : Node) (b : Actives) → is_same_node x y ≡ false → HoldsAll p y b → HoldsAll (judged e a p) y b
others_before p w e x i is off a y b apart holds = judged_holds p e a y b (sets_none w e x b (ap taker is) off) (takes_apart p w e x y b (ap taker is) apart) holds

-- ---- idle lines

-- a line says nothing of active anchors, and has nobody reconfigure
abbrev IsIdleLine : Line → Type 0
IsIdleLine (line.Note n) = is_idle n ≡ true
IsIdleLine (line.Send l f) = orders f ≡ true → T ≡ M
IsIdleLine (line.Event e) = ⊤
IsIdleLine (line.Answer a) = ⊤

no_master : {X : Type 0} → T ≡ M → X
no_master is = absurd (let bad : true ≡ false = ap (λ z. is_same_node z T) is in cc)

idle_line : (l : Line) → IsIdleLine l → (x : Node) (p : Past) (a : Actives) → LineFits x a l × Suits p a l × (line_actives a l ≡ a) × ((b : Actives) → IsApart b l)
idle_line (line.Note (note.Own y id g)) idle x p a = absurd cc
idle_line (line.Note (note.Give y id g)) idle x p a = absurd cc
idle_line (line.Note (note.Up y id Ul count sdu)) idle x p a = absurd cc
idle_line (line.Note (note.Up y id Dl count sdu)) idle x p a = (tt, tt, refl, λ b. tt)
idle_line (line.Note (note.Begin w)) idle x p a = (tt, tt, refl, λ b. tt)
idle_line (line.Note (note.Join y g)) idle x p a = (tt, tt, refl, λ b. tt)
idle_line (line.Note (note.Leave y g)) idle x p a = (tt, tt, refl, λ b. tt)
idle_line (line.Note (note.Set id g)) idle x p a = (tt, tt, refl, λ b. tt)
idle_line (line.Note (note.Unset id)) idle x p a = (tt, tt, refl, λ b. tt)
idle_line (line.Note (note.Freed id d count)) idle x p a = (tt, tt, refl, λ b. tt)
idle_line (line.Note (note.Confirmed y)) idle x p a = (tt, tt, refl, λ b. tt)
idle_line (line.Note (note.Refused y w)) idle x p a = (tt, tt, refl, λ b. tt)
idle_line (line.Note note.Done) idle x p a = (tt, tt, refl, λ b. tt)
idle_line (line.Note note.Rejected) idle x p a = (tt, tt, refl, λ b. tt)
idle_line (line.Send l (flight.Ctl (rec.Reconf q key))) idle x p a = no_master (idle refl)
idle_line (line.Send l (flight.Air id g num tag pdu)) idle x p a = (tt, tt, refl, λ b. tt)
idle_line (line.Send l (flight.Ack id g num)) idle x p a = (tt, tt, refl, λ b. tt)
idle_line (line.Send l (flight.Tun tag packet)) idle x p a = (tt, tt, refl, λ b. tt)
idle_line (line.Send l (flight.Sdu id g sdu)) idle x p a = (tt, tt, refl, λ b. tt)
idle_line (line.Send l (flight.End id g)) idle x p a = (tt, tt, refl, λ b. tt)
idle_line (line.Send l (flight.Told id g count)) idle x p a = (tt, tt, refl, λ b. tt)
idle_line (line.Send l (flight.Ctl (rec.Rcomp g))) idle x p a = (tt, tt, refl, λ b. tt)
idle_line (line.Send l (flight.Ctl (rec.Scgf pairs))) idle x p a = (tt, tt, refl, λ b. tt)
idle_line (line.Send l (flight.Ctl (rec.Recov id))) idle x p a = (tt, tt, refl, λ b. tt)
idle_line (line.Send l (flight.Ctl (rec.Recovd id))) idle x p a = (tt, tt, refl, λ b. tt)
idle_line (line.Send l (flight.Ctl (rec.Addreq q key))) idle x p a = (tt, tt, refl, λ b. tt)
idle_line (line.Send l (flight.Ctl (rec.Addack g))) idle x p a = (tt, tt, refl, λ b. tt)
idle_line (line.Send l (flight.Ctl (rec.Addrej g))) idle x p a = (tt, tt, refl, λ b. tt)
idle_line (line.Send l (flight.Ctl (rec.Modreq q key))) idle x p a = (tt, tt, refl, λ b. tt)
idle_line (line.Send l (flight.Ctl (rec.Modack g))) idle x p a = (tt, tt, refl, λ b. tt)
idle_line (line.Send l (flight.Ctl (rec.Modrej g))) idle x p a = (tt, tt, refl, λ b. tt)
idle_line (line.Send l (flight.Ctl (rec.Recfg g))) idle x p a = (tt, tt, refl, λ b. tt)
idle_line (line.Send l (flight.Ctl (rec.Relreq q))) idle x p a = (tt, tt, refl, λ b. tt)
idle_line (line.Send l (flight.Ctl (rec.Relack g))) idle x p a = (tt, tt, refl, λ b. tt)
idle_line (line.Send l (flight.Ctl (rec.Relrej g))) idle x p a = (tt, tt, refl, λ b. tt)
idle_line (line.Send l (flight.Ctl (rec.Uecr g))) idle x p a = (tt, tt, refl, λ b. tt)
idle_line (line.Send l (flight.Ctl (rec.Snst s))) idle x p a = (tt, tt, refl, λ b. tt)
idle_line (line.Send l (flight.Ctl (rec.Moved g id))) idle x p a = (tt, tt, refl, λ b. tt)
idle_line (line.Send l (flight.Ctl (rec.Scgn id g))) idle x p a = (tt, tt, refl, λ b. tt)
idle_line (line.Send l (flight.Ctl rec.Modrqd)) idle x p a = (tt, tt, refl, λ b. tt)
idle_line (line.Send l (flight.Ctl (rec.Modcnf g))) idle x p a = (tt, tt, refl, λ b. tt)
idle_line (line.Send l (flight.Ctl (rec.Modref w))) idle x p a = (tt, tt, refl, λ b. tt)
idle_line (line.Send l (flight.Ctl rec.Chgrqd)) idle x p a = (tt, tt, refl, λ b. tt)
idle_line (line.Send l (flight.Ctl (rec.Chgcnf q))) idle x p a = (tt, tt, refl, λ b. tt)
idle_line (line.Send l (flight.Ctl (rec.Chgref w))) idle x p a = (tt, tt, refl, λ b. tt)
idle_line (line.Send l (flight.Ctl rec.Relrqd)) idle x p a = (tt, tt, refl, λ b. tt)
idle_line (line.Send l (flight.Ctl (rec.Relcnf q))) idle x p a = (tt, tt, refl, λ b. tt)
idle_line (line.Event e) idle x p a = (tt, tt, refl, λ b. tt)
idle_line (line.Answer r) idle x p a = (tt, tt, refl, λ b. tt)

idle_all : (ls : List Line) → AllByRecursion IsIdleLine ls → (x : Node) (p : Past) (a : Actives) → LinesFit x a ls × AllSuit p a ls
idle_all [] idle x p a = (tt, tt)
idle_all (l ∷ ls) idle x p a =
    let is = idle_line l idle.0 x p a in
    let more = subst (λ z. LinesFit x z ls × AllSuit (noted p l) z ls) (sym is.2) (idle_all ls idle.1 x (noted p l) a) in
    ((is.0, more.0), (is.1, more.1))

idle_apart : (ls : List Line) → AllByRecursion IsIdleLine ls → (p : Past) (b : Actives) → AllByRecursion (IsApart b) ls
idle_apart [] idle p b = tt
idle_apart (l ∷ ls) idle p b = ((idle_line l idle.0 T p b).3 b, idle_apart ls idle.1 p b)

-- ---- the terminal

idle_notes : (ns : List Note) → AreIdle ns → AllByRecursion (λ n. IsIdleLine (line.Note n)) ns
idle_notes [] idle = tt
idle_notes (n ∷ ns) idle = (idle.0, idle_notes ns idle.1)

idle_sends : (ss : List Send) → AllByRecursion (λ (s : Send). OrdersAsMaster T (line.Send s.0 s.1)) ss → AllByRecursion (λ (s : Send). IsIdleLine (line.Send s.0 s.1)) ss
idle_sends [] all = tt
idle_sends (s ∷ ss) all = (all.0, idle_sends ss all.1)

-- each step of the terminal suits the past
pub terminal_suited : (c : Choices) (p : Past) (w : World) (e : Event) (i : Input) → happening w e ≡ given_to T i
    → IsSuited p w e T (carried_on c w (given_to T i)).1 (carried_on c w (given_to T i)).0
terminal_suited c p w e i is =
    let o = (carried_on c w (given_to T i)).1 in
    let q = judged e o.answer p in
    let none : Actives = λ k. None in
    let idle = each_line_of IsIdleLine o (idle_notes o.notes (terminal_idle c w.terminal i)) (idle_sends o.sends (by_terminal o.sends (terminal_kinds c w.terminal i))) in
    let all = idle_all (lines_of o) idle T q none in
    record {
      start = none;
      begins = λ holds k g at. absurd (never g at);
      fit = all.0;
      suit = all.1;
      ends = λ k g at. absurd (never g at);
      others = λ y apart holds. others_before p w e T i is refl o.answer y (actives_at y w) apart holds;
      apart = λ y apart. idle_apart (lines_of o) idle q (actives_at y w);
    }
  where
    never : (g : ℕ) → None ≡ Some g → ⊥
    never g at = absurd (let bad : None ≡ Some g = at in cc)
