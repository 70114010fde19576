-- All passes, when they are made and when they have come back.
use Rattle.std.proofs.Common.{List, [], ap, append_assoc, arith, subst, suc, sym, zero, ℕ, ◌++◌, ◌<◌, ◌∙◌, ◌≡◌}
use Rattle.atomic_table.specs.Seated.{TableId}
use Rattle.crossbeam_queue.specs.Passes.{Pass, view}
use Rattle.inbox.specs.Inbox.{put_of, sender}
use Rattle.inbox.specs.declared.View.{View}
use Rattle.journals.specs.Journals.{AreFirst}
use Rattle.journals.specs.Messages.{from}
use Rattle.journals.specs.declared.entries.Message.{Message}
use Rattle.outlets.specs.Boxes.{AllFirst, AreAllWays, AreReaders, AreTickets, IsSettled, none_sent}
use Rattle.outlets.specs.Ways.{AreWays, IsTicketOf, IsWay, Way, Ways}
use Rattle.outlets.specs.declared.four.Four.{Four}

first_of : (f l put w all : List Message) → f ++ l ≡ put → put ++ w ≡ all → AreFirst f all
first_of f l put w all e g = (l ++ w, sym g ∙ (ap (λ (x : List Message). x ++ w) (sym e) ∙ append_assoc f l w))

-- of one sender, what each node took is what was sent to it first
of_sender : (ids : ℕ → TableId) (p : ℕ) (got sent : ℕ → List Message) (ws : Ways) → AreWays ids p sent ws → (t m a b : List Message)
    → from p (got 0) ++ t ≡ put_of (view ws.t.pass) → from p (got 1) ++ m ≡ put_of (view ws.m.pass) → from p (got 2) ++ a ≡ put_of (view ws.a.pass) → from p (got 3) ++ b ≡ put_of (view ws.b.pass)
    → (n : ℕ) → n < 4 → AreFirst (from p (got n)) (sent n)
of_sender ids p got sent ws is t m a b et em ea eb zero less = first_of (from p (got 0)) t _ ws.t.waiting _ et is.t.whole
of_sender ids p got sent ws is t m a b et em ea eb (suc zero) less = first_of (from p (got 1)) m _ ws.m.waiting _ em is.m.whole
of_sender ids p got sent ws is t m a b et em ea eb (suc (suc zero)) less = first_of (from p (got 2)) a _ ws.a.waiting _ ea is.a.whole
of_sender ids p got sent ws is t m a b et em ea eb (suc (suc (suc zero))) less = first_of (from p (got 3)) b _ ws.b.waiting _ eb is.b.whole
of_sender ids p got sent ws is t m a b et em ea eb (suc (suc (suc (suc n)))) less = absurd (omega arith)

-- of each sender, what each node took is what was sent to it first
pub all_first : (ids : ℕ → TableId) (got : ℕ → List Message) (sent : ℕ → ℕ → List Message) (ws : Four Ways) → AreAllWays ids sent ws
    → IsSettled (got 0) (put_of (view ws.t.t.pass)) (put_of (view ws.m.t.pass)) (put_of (view ws.a.t.pass)) (put_of (view ws.b.t.pass))
    → IsSettled (got 1) (put_of (view ws.t.m.pass)) (put_of (view ws.m.m.pass)) (put_of (view ws.a.m.pass)) (put_of (view ws.b.m.pass))
    → IsSettled (got 2) (put_of (view ws.t.a.pass)) (put_of (view ws.m.a.pass)) (put_of (view ws.a.a.pass)) (put_of (view ws.b.a.pass))
    → IsSettled (got 3) (put_of (view ws.t.b.pass)) (put_of (view ws.m.b.pass)) (put_of (view ws.a.b.pass)) (put_of (view ws.b.b.pass))
    → AllFirst got sent
all_first ids got sent ws is t m a b zero n small less = of_sender ids 0 got (sent 0) ws.t is.t _ _ _ _ t.from_t m.from_t a.from_t b.from_t n less
all_first ids got sent ws is t m a b (suc zero) n small less = of_sender ids 1 got (sent 1) ws.m is.m _ _ _ _ t.from_m m.from_m a.from_m b.from_m n less
all_first ids got sent ws is t m a b (suc (suc zero)) n small less = of_sender ids 2 got (sent 2) ws.a is.a _ _ _ _ t.from_a m.from_a a.from_a b.from_a n less
all_first ids got sent ws is t m a b (suc (suc (suc zero))) n small less = of_sender ids 3 got (sent 3) ws.b is.b _ _ _ _ t.from_b m.from_b a.from_b b.from_b n less
all_first ids got sent ws is t m a b (suc (suc (suc (suc p)))) n small less = absurd (omega arith)

-- ---- by the passes that came back

settled_as : (got was : List Message) (ts : Four (Pass Message View)) (t m a b : Pass Message View) → got ≡ was → ts.t ≡ t → ts.m ≡ m → ts.a ≡ a → ts.b ≡ b
    → IsSettled got (put_of (view ts.t)) (put_of (view ts.m)) (put_of (view ts.a)) (put_of (view ts.b)) → IsSettled was (put_of (view t)) (put_of (view m)) (put_of (view a)) (put_of (view b))
settled_as got was ts t m a b e et em ea eb s =
    let put : Pass Message View → List Message = λ p. put_of (view p) in
    record {
      left = s.left;
      from_t = ap (λ (l : List Message). from 0 l ++ from 0 s.left) (sym e) ∙ (s.from_t ∙ ap put et);
      from_m = ap (λ (l : List Message). from 1 l ++ from 1 s.left) (sym e) ∙ (s.from_m ∙ ap put em);
      from_a = ap (λ (l : List Message). from 2 l ++ from 2 s.left) (sym e) ∙ (s.from_a ∙ ap put ea);
      from_b = ap (λ (l : List Message). from 3 l ++ from 3 s.left) (sym e) ∙ (s.from_b ∙ ap put eb);
    }

-- these are the passes of the ways
abbrev AreTheirs : Four (Pass Message View) → Ways → Type 0
AreTheirs ts ws = (ts.t ≡ ws.t.pass) × (ts.m ≡ ws.m.pass) × (ts.a ≡ ws.a.pass) × (ts.b ≡ ws.b.pass)

-- one pass of each, for the same inbox
abbrev column : (t m a b : Pass Message View) → Four (Pass Message View)
column t m a b = record { t = t; m = m; a = a; b = b }

-- of each sender, what each node took is what was sent to it first
pub all_closed : (ids : ℕ → TableId) (got : ℕ → List Message) (sent : ℕ → ℕ → List Message) (readers : Four (Pass Message View)) (ws : Four Ways) (t m a b to_t to_m to_a to_b : Four (Pass Message View))
    → AreReaders ids got readers → AreAllWays ids sent ws
    → AreTheirs t ws.t → AreTheirs m ws.m → AreTheirs a ws.a → AreTheirs b ws.b
    → to_t ≡ column t.t m.t a.t b.t → to_m ≡ column t.m m.m a.m b.m → to_a ≡ column t.a m.a a.a b.a → to_b ≡ column t.b m.b a.b b.b
    → IsSettled (view readers.t).got (put_of (view to_t.t)) (put_of (view to_t.m)) (put_of (view to_t.a)) (put_of (view to_t.b))
    → IsSettled (view readers.m).got (put_of (view to_m.t)) (put_of (view to_m.m)) (put_of (view to_m.a)) (put_of (view to_m.b))
    → IsSettled (view readers.a).got (put_of (view to_a.t)) (put_of (view to_a.m)) (put_of (view to_a.a)) (put_of (view to_a.b))
    → IsSettled (view readers.b).got (put_of (view to_b.t)) (put_of (view to_b.m)) (put_of (view to_b.a)) (put_of (view to_b.b))
    → AllFirst got sent
all_closed ids got sent readers ws t m a b to_t to_m to_a to_b rs is et em ea eb ct cm ca cb st sm sa sb =
    let taken : View → List Message = λ v. v.got in
    let x : Four (Pass Message View) → Pass Message View = λ f. f.t in
    let y : Four (Pass Message View) → Pass Message View = λ f. f.m in
    let z : Four (Pass Message View) → Pass Message View = λ f. f.a in
    let w : Four (Pass Message View) → Pass Message View = λ f. f.b in
    all_first ids got sent ws is
    (settled_as _ _ to_t _ _ _ _ (ap taken rs.t.1) (ap x ct ∙ et.0) (ap y ct ∙ em.0) (ap z ct ∙ ea.0) (ap w ct ∙ eb.0) st)
    (settled_as _ _ to_m _ _ _ _ (ap taken rs.m.1) (ap x cm ∙ et.1) (ap y cm ∙ em.1) (ap z cm ∙ ea.1) (ap w cm ∙ eb.1) sm)
    (settled_as _ _ to_a _ _ _ _ (ap taken rs.a.1) (ap x ca ∙ et.2) (ap y ca ∙ em.2) (ap z ca ∙ ea.2) (ap w ca ∙ eb.2) sa)
    (settled_as _ _ to_b _ _ _ _ (ap taken rs.b.1) (ap x cb ∙ et.3) (ap y cb ∙ em.3) (ap z cb ∙ ea.3) (ap w cb ∙ eb.3) sb)

-- ---- by the passes that are made

-- the way by a pass, on which nothing waits
abbrev new_way : Pass Message View → Way
new_way p = record { pass = p; waiting = [] }

-- those by these passes
abbrev new_ways : Four (Pass Message View) → Ways
new_ways ts = record { t = new_way ts.t; m = new_way ts.m; a = new_way ts.a; b = new_way ts.b }

way_new : (id : TableId) (n : ℕ) (p : Pass Message View) → IsTicketOf id p × (view p ≡ sender n []) → IsWay id n [] (new_way p)
way_new id n p is =
    record {
      pass = is.0;
      right = is.1 ∙ ap (λ (l : List Message). sender n l) (sym (ap put_of is.1));
      own = tt;
      whole = ap (λ (v : View). put_of v ++ []) is.1;
    }

-- nothing was sent by them
pub all_new : (ids : ℕ → TableId) (t m a b : Four (Pass Message View)) (by : Four (Four (Pass Message View))) (wt wm wa wb : Ways)
    → AreTickets (ids 0) t → AreTickets (ids 1) m → AreTickets (ids 2) a → AreTickets (ids 3) b
    → by.t ≡ column t.t m.t a.t b.t → by.m ≡ column t.m m.m a.m b.m → by.a ≡ column t.a m.a a.a b.a → by.b ≡ column t.b m.b a.b b.b
    → wt ≡ new_ways by.t → wm ≡ new_ways by.m → wa ≡ new_ways by.a → wb ≡ new_ways by.b
    → AreAllWays ids none_sent (record { t = wt; m = wm; a = wa; b = wb })
all_new ids t m a b by wt wm wa wb it im ia ib ct cm ca cb et em ea eb =
    record {
      t = subst (λ (w : Ways). AreWays ids 0 (none_sent 0) w) (sym (et ∙ ap new_ways ct)) (record { t = way_new (ids 0) 0 t.t it.t; m = way_new (ids 1) 0 m.t im.t; a = way_new (ids 2) 0 a.t ia.t; b = way_new (ids 3) 0 b.t ib.t });
      m = subst (λ (w : Ways). AreWays ids 1 (none_sent 1) w) (sym (em ∙ ap new_ways cm)) (record { t = way_new (ids 0) 1 t.m it.m; m = way_new (ids 1) 1 m.m im.m; a = way_new (ids 2) 1 a.m ia.m; b = way_new (ids 3) 1 b.m ib.m });
      a = subst (λ (w : Ways). AreWays ids 2 (none_sent 2) w) (sym (ea ∙ ap new_ways ca)) (record { t = way_new (ids 0) 2 t.a it.a; m = way_new (ids 1) 2 m.a im.a; a = way_new (ids 2) 2 a.a ia.a; b = way_new (ids 3) 2 b.a ib.a });
      b = subst (λ (w : Ways). AreWays ids 3 (none_sent 3) w) (sym (eb ∙ ap new_ways cb)) (record { t = way_new (ids 0) 3 t.b it.b; m = way_new (ids 1) 3 m.b im.b; a = way_new (ids 2) 3 a.b ia.b; b = way_new (ids 3) 3 b.b ib.b });
    }
