-- What posts do to ways.
use Rattle.std.proofs.Common.{List, [], ap, append_assoc, sym, ◌++◌, ◌==◌, ◌∙◌, ◌∷◌, ◌≡◌, ℕ}
use Rattle.std.proofs.lemmas.List.{append-nil}
use Rattle.std.proofs.lemmas.List.Elements.{filter-append}
use Rattle.atomic_table.specs.Seated.{TableId}
use Rattle.crossbeam_queue.specs.Passes.{view}
use Rattle.dc_base.specs.Nodes.{node_number}
use Rattle.dc_base.specs.declared.nodes.Node.TheVariants.{A, B, M, T}
use Rattle.inbox.specs.Inbox.{put_of}
use Rattle.journals.proofs.OnEach.{each_append, each_filter}
use Rattle.journals.specs.Messages.{to}
use Rattle.journals.specs.declared.entries.Message.{Message}
use Rattle.outlets.specs.Ways.{AreOf, AreWays, IsWay, Way, Ways, posted, posted_at, with_message}

-- no message: nothing changes
pub posted_none : (ws : Ways) → ws ≡ posted ws []
posted_none ws = simp append-nil

-- some messages and then others
pub posted_more : (ws : Ways) (xs ys : List Message) → posted (posted ws xs) ys ≡ posted ws (xs ++ ys)
posted_more ws xs ys = simp (append_assoc, filter-append)

-- one message waits for its receiver
pub posted_t : (ws : Ways) (m : Message) → m.link.to ≡ T → record ws { t = with_message ws.t m } ≡ posted ws (m ∷ [])
posted_t ws m is = rw is (simp append-nil)

pub posted_m : (ws : Ways) (m : Message) → m.link.to ≡ M → record ws { m = with_message ws.m m } ≡ posted ws (m ∷ [])
posted_m ws m is = rw is (simp append-nil)

pub posted_a : (ws : Ways) (m : Message) → m.link.to ≡ A → record ws { a = with_message ws.a m } ≡ posted ws (m ∷ [])
posted_a ws m is = rw is (simp append-nil)

pub posted_b : (ws : Ways) (m : Message) → m.link.to ≡ B → record ws { b = with_message ws.b m } ≡ posted ws (m ∷ [])
posted_b ws m is = rw is (simp append-nil)

way_posted : (id : TableId) (n k : ℕ) (old ms : List Message) (w : Way) → IsWay id n (to k old) w → AreOf n ms → IsWay id n (to k (old ++ ms)) (posted_at k w ms)
way_posted id n k old ms w is own =
    record {
      pass = is.pass;
      right = is.right;
      own = each_append (λ (m : Message). node_number m.link.from ≡ n) w.waiting (to k ms) is.own (each_filter (λ (m : Message). node_number m.link.from ≡ n) (λ m. node_number m.link.to == k) ms own);
      whole = sym (append_assoc (put_of (view w.pass)) w.waiting (to k ms)) ∙ (ap (λ (l : List Message). l ++ to k ms) is.whole ∙ sym (filter-append (λ m. node_number m.link.to == k) old ms));
    }

-- what was sent before, with what is sent now
pub ways_posted : (ids : ℕ → TableId) (n : ℕ) (old ms : List Message) (ws : Ways) → AreWays ids n (λ k. to k old) ws → AreOf n ms → AreWays ids n (λ k. to k (old ++ ms)) (posted ws ms)
ways_posted ids n old ms ws is own =
    record {
      t = way_posted (ids 0) n 0 old ms ws.t is.t own;
      m = way_posted (ids 1) n 1 old ms ws.m is.m own;
      a = way_posted (ids 2) n 2 old ms ws.a is.a own;
      b = way_posted (ids 3) n 3 old ms ws.b is.b own;
    }
