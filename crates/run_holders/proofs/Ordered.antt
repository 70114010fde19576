-- The lines of an outcome fit the active anchors of a node, where its notes do, in the order in which they happen.
use Rattle.std.proofs.Common.{ℕ, ◌≡◌, ◌==◌, ◌++◌, ◌∙◌, Bool, true, false, List, [], ◌∷◌, Some, refl, sym, ap, subst, inl, inr}
use Rattle.std.specs.List.{flat_map, list_any}
use Rattle.std.specs.Prelude.{filter, fold, if◌then◌else◌, is_some, map, ◌||◌}
use Rattle.std.proofs.lemmas.List.Folds.{list_any-append}
use Rattle.dc_base.specs.Links.{all_links, is_same_link}
use Rattle.dc_base.specs.declared.events.Line.{Line}
use Rattle.dc_base.specs.declared.events.Line.TheVariants as line
use Rattle.dc_base.specs.declared.events.Note.{Note}
use Rattle.dc_base.specs.declared.events.Note.TheVariants as note
use Rattle.dc_base.specs.declared.nodes.Dir.TheVariants.{Dl, Ul}
use Rattle.dc_base.specs.declared.nodes.LinkId.{LinkId}
use Rattle.dc_base.specs.declared.nodes.Node.{Node}
use Rattle.node_rules.specs.Choices.{Send}
use Rattle.node_rules.specs.Lines.{ended, is_end, is_idle_release, lines_by, lines_of, notes_after, notes_at, notes_before, ordered, place, sends_after, sends_before, sends_on}
use Rattle.node_rules.specs.declared.inputs.Outcome.{Outcome}
use Rattle.run_holders.specs.Actives.{Actives, GiveOrHand, LinesFit, NotesFit, is_give, is_handing, line_actives, note_actives, with_active}
use Rattle.run_holders.proofs.Notes.{fit_first, fit_later, fold_notes}

-- lines that fit, and lead from the one to the other
pub record Leads (x : Node) (a : Actives) (xs : List Line) (b : Actives) : Type 0 where
  pub fit : LinesFit x a xs
  pub is : fold line_actives a xs ≡ b

fold_lines : (xs ys : List Line) (a : Actives) → fold line_actives a (xs ++ ys) ≡ fold line_actives (fold line_actives a xs) ys
fold_lines [] ys a = refl
fold_lines (l ∷ xs) ys a = fold_lines xs ys (line_actives a l)

fit_lines : (x : Node) (xs ys : List Line) (a : Actives) → LinesFit x a xs → LinesFit x (fold line_actives a xs) ys → LinesFit x a (xs ++ ys)
fit_lines x [] ys a one two = two
fit_lines x (l ∷ xs) ys a one two = (one.0, fit_lines x xs ys (line_actives a l) one.1 two)

pub leads_then : (x : Node) (a b d : Actives) (xs ys : List Line) → Leads x a xs b → Leads x b ys d → Leads x a (xs ++ ys) d
leads_then x a b d xs ys one two = record {
  fit = fit_lines x xs ys a one.fit (subst (λ z. LinesFit x z ys) (sym one.is) two.fit);
  is = fold_lines xs ys a ∙ ap (λ z. fold line_actives z ys) one.is ∙ two.is;
}

leads_nothing : (x : Node) (a : Actives) → Leads x a [] a
leads_nothing x a = record { fit = tt; is = refl }

-- ---- notes as lines

fold_noted : (ns : List Note) (a : Actives) → fold line_actives a (map (λ n. line.Note n) ns) ≡ fold note_actives a ns
fold_noted [] a = refl
fold_noted (n ∷ ns) a = fold_noted ns (note_actives a n)

fit_noted : (x : Node) (ns : List Note) (a : Actives) → NotesFit x a ns → LinesFit x a (map (λ n. line.Note n) ns)
fit_noted x [] a is = tt
fit_noted x (n ∷ ns) a is = (is.0, fit_noted x ns (note_actives a n) is.1)

-- ---- sends

leads_sends : (x : Node) (a : Actives) (ss : List Send) → Leads x a (map (λ (s : Send). line.Send s.0 s.1) ss) a
leads_sends x a [] = leads_nothing x a
leads_sends x a (s ∷ ss) = let more = leads_sends x a ss in record { fit = (tt, more.fit); is = more.is }

leads_links : (x : Node) (a : Actives) (ss : List Send) (ls : List LinkId) → Leads x a (flat_map (sends_on ss) ls) a
leads_links x a ss [] = leads_nothing x a
leads_links x a ss (l ∷ ls) =
    leads_then x a a a (sends_on ss l) (flat_map (sends_on ss) ls) (leads_sends x a (filter (λ (s : Send). is_same_link l s.0) ss)) (leads_links x a ss ls)

-- ---- the notes of a place

still_0 : (x : Node) (a : Actives) (ns : List Note) → Leads x a (notes_at ns 0) a
still_0 x a [] = leads_nothing x a
still_0 x a ((note.Begin w) ∷ ns) = let more = still_0 x a ns in record { fit = (tt, more.fit); is = more.is }
still_0 x a ((note.Join y h) ∷ ns) = still_0 x a ns
still_0 x a ((note.Leave y h) ∷ ns) = still_0 x a ns
still_0 x a ((note.Give y id h) ∷ ns) = still_0 x a ns
still_0 x a ((note.Own y id h) ∷ ns) = still_0 x a ns
still_0 x a ((note.Set id h) ∷ ns) = still_0 x a ns
still_0 x a ((note.Unset id) ∷ ns) = still_0 x a ns
still_0 x a ((note.Up y id Ul count sdu) ∷ ns) = still_0 x a ns
still_0 x a ((note.Up y id Dl count sdu) ∷ ns) = still_0 x a ns
still_0 x a ((note.Freed id d count) ∷ ns) = still_0 x a ns
still_0 x a ((note.Confirmed y) ∷ ns) = still_0 x a ns
still_0 x a ((note.Refused y w) ∷ ns) = still_0 x a ns
still_0 x a (note.Done ∷ ns) = still_0 x a ns
still_0 x a (note.Rejected ∷ ns) = still_0 x a ns

still_1 : (x : Node) (a : Actives) (ns : List Note) → Leads x a (notes_at ns 1) a
still_1 x a [] = leads_nothing x a
still_1 x a ((note.Begin w) ∷ ns) = still_1 x a ns
still_1 x a ((note.Join y h) ∷ ns) = let more = still_1 x a ns in record { fit = (tt, more.fit); is = more.is }
still_1 x a ((note.Leave y h) ∷ ns) = let more = still_1 x a ns in record { fit = (tt, more.fit); is = more.is }
still_1 x a ((note.Give y id h) ∷ ns) = still_1 x a ns
still_1 x a ((note.Own y id h) ∷ ns) = still_1 x a ns
still_1 x a ((note.Set id h) ∷ ns) = still_1 x a ns
still_1 x a ((note.Unset id) ∷ ns) = still_1 x a ns
still_1 x a ((note.Up y id Ul count sdu) ∷ ns) = still_1 x a ns
still_1 x a ((note.Up y id Dl count sdu) ∷ ns) = still_1 x a ns
still_1 x a ((note.Freed id d count) ∷ ns) = still_1 x a ns
still_1 x a ((note.Confirmed y) ∷ ns) = still_1 x a ns
still_1 x a ((note.Refused y w) ∷ ns) = still_1 x a ns
still_1 x a (note.Done ∷ ns) = still_1 x a ns
still_1 x a (note.Rejected ∷ ns) = still_1 x a ns

still_4 : (x : Node) (a : Actives) (ns : List Note) → Leads x a (notes_at ns 4) a
still_4 x a [] = leads_nothing x a
still_4 x a ((note.Begin w) ∷ ns) = still_4 x a ns
still_4 x a ((note.Join y h) ∷ ns) = still_4 x a ns
still_4 x a ((note.Leave y h) ∷ ns) = still_4 x a ns
still_4 x a ((note.Give y id h) ∷ ns) = still_4 x a ns
still_4 x a ((note.Own y id h) ∷ ns) = still_4 x a ns
still_4 x a ((note.Set id h) ∷ ns) = still_4 x a ns
still_4 x a ((note.Unset id) ∷ ns) = still_4 x a ns
still_4 x a ((note.Up y id Ul count sdu) ∷ ns) = still_4 x a ns
still_4 x a ((note.Up y id Dl count sdu) ∷ ns) = still_4 x a ns
still_4 x a ((note.Freed id d count) ∷ ns) = let more = still_4 x a ns in record { fit = (tt, more.fit); is = more.is }
still_4 x a ((note.Confirmed y) ∷ ns) = still_4 x a ns
still_4 x a ((note.Refused y w) ∷ ns) = still_4 x a ns
still_4 x a (note.Done ∷ ns) = still_4 x a ns
still_4 x a (note.Rejected ∷ ns) = still_4 x a ns

still_5 : (x : Node) (a : Actives) (ns : List Note) → Leads x a (notes_at ns 5) a
still_5 x a [] = leads_nothing x a
still_5 x a ((note.Begin w) ∷ ns) = still_5 x a ns
still_5 x a ((note.Join y h) ∷ ns) = still_5 x a ns
still_5 x a ((note.Leave y h) ∷ ns) = still_5 x a ns
still_5 x a ((note.Give y id h) ∷ ns) = still_5 x a ns
still_5 x a ((note.Own y id h) ∷ ns) = still_5 x a ns
still_5 x a ((note.Set id h) ∷ ns) = still_5 x a ns
still_5 x a ((note.Unset id) ∷ ns) = still_5 x a ns
still_5 x a ((note.Up y id Ul count sdu) ∷ ns) = still_5 x a ns
still_5 x a ((note.Up y id Dl count sdu) ∷ ns) = still_5 x a ns
still_5 x a ((note.Freed id d count) ∷ ns) = still_5 x a ns
still_5 x a ((note.Confirmed y) ∷ ns) = let more = still_5 x a ns in record { fit = (tt, more.fit); is = more.is }
still_5 x a ((note.Refused y w) ∷ ns) = let more = still_5 x a ns in record { fit = (tt, more.fit); is = more.is }
still_5 x a (note.Done ∷ ns) = still_5 x a ns
still_5 x a (note.Rejected ∷ ns) = still_5 x a ns

still_6 : (x : Node) (a : Actives) (ns : List Note) → Leads x a (notes_at ns 6) a
still_6 x a [] = leads_nothing x a
still_6 x a ((note.Begin w) ∷ ns) = still_6 x a ns
still_6 x a ((note.Join y h) ∷ ns) = still_6 x a ns
still_6 x a ((note.Leave y h) ∷ ns) = still_6 x a ns
still_6 x a ((note.Give y id h) ∷ ns) = still_6 x a ns
still_6 x a ((note.Own y id h) ∷ ns) = still_6 x a ns
still_6 x a ((note.Set id h) ∷ ns) = still_6 x a ns
still_6 x a ((note.Unset id) ∷ ns) = still_6 x a ns
still_6 x a ((note.Up y id Ul count sdu) ∷ ns) = still_6 x a ns
still_6 x a ((note.Up y id Dl count sdu) ∷ ns) = still_6 x a ns
still_6 x a ((note.Freed id d count) ∷ ns) = still_6 x a ns
still_6 x a ((note.Confirmed y) ∷ ns) = still_6 x a ns
still_6 x a ((note.Refused y w) ∷ ns) = still_6 x a ns
still_6 x a (note.Done ∷ ns) = let more = still_6 x a ns in record { fit = (tt, more.fit); is = more.is }
still_6 x a (note.Rejected ∷ ns) = let more = still_6 x a ns in record { fit = (tt, more.fit); is = more.is }

-- those by which anchors are active, or not
moves_fit : (x : Node) (a : Actives) (ns : List Note) → NotesFit x a ns → NotesFit x a (filter (λ n. place n == 2) ns)
moves_fit x a [] is = tt
moves_fit x a ((note.Begin w) ∷ ns) is = moves_fit x a ns is.1
moves_fit x a ((note.Join y h) ∷ ns) is = moves_fit x a ns is.1
moves_fit x a ((note.Leave y h) ∷ ns) is = moves_fit x a ns is.1
moves_fit x a ((note.Give y id h) ∷ ns) is = (is.0, moves_fit x (note_actives a (note.Give y id h)) ns is.1)
moves_fit x a ((note.Own y id h) ∷ ns) is = (is.0, moves_fit x (note_actives a (note.Own y id h)) ns is.1)
moves_fit x a ((note.Set id h) ∷ ns) is = (is.0, moves_fit x (note_actives a (note.Set id h)) ns is.1)
moves_fit x a ((note.Unset id) ∷ ns) is = (is.0, moves_fit x (note_actives a (note.Unset id)) ns is.1)
moves_fit x a ((note.Up y id Ul count sdu) ∷ ns) is = moves_fit x a ns is.1
moves_fit x a ((note.Up y id Dl count sdu) ∷ ns) is = moves_fit x a ns is.1
moves_fit x a ((note.Freed id d count) ∷ ns) is = moves_fit x a ns is.1
moves_fit x a ((note.Confirmed y) ∷ ns) is = moves_fit x a ns is.1
moves_fit x a ((note.Refused y w) ∷ ns) is = moves_fit x a ns is.1
moves_fit x a (note.Done ∷ ns) is = moves_fit x a ns is.1
moves_fit x a (note.Rejected ∷ ns) is = moves_fit x a ns is.1

moves_all : (a : Actives) (ns : List Note) → fold note_actives a (filter (λ n. place n == 2) ns) ≡ fold note_actives a ns
moves_all a [] = refl
moves_all a ((note.Begin w) ∷ ns) = moves_all a ns
moves_all a ((note.Join y h) ∷ ns) = moves_all a ns
moves_all a ((note.Leave y h) ∷ ns) = moves_all a ns
moves_all a ((note.Give y id h) ∷ ns) = moves_all (note_actives a (note.Give y id h)) ns
moves_all a ((note.Own y id h) ∷ ns) = moves_all (note_actives a (note.Own y id h)) ns
moves_all a ((note.Set id h) ∷ ns) = moves_all (note_actives a (note.Set id h)) ns
moves_all a ((note.Unset id) ∷ ns) = moves_all (note_actives a (note.Unset id)) ns
moves_all a ((note.Up y id Ul count sdu) ∷ ns) = moves_all a ns
moves_all a ((note.Up y id Dl count sdu) ∷ ns) = moves_all a ns
moves_all a ((note.Freed id d count) ∷ ns) = moves_all a ns
moves_all a ((note.Confirmed y) ∷ ns) = moves_all a ns
moves_all a ((note.Refused y w) ∷ ns) = moves_all a ns
moves_all a (note.Done ∷ ns) = moves_all a ns
moves_all a (note.Rejected ∷ ns) = moves_all a ns

leads_moves : (x : Node) (a : Actives) (ns : List Note) → NotesFit x a ns → Leads x a (notes_at ns 2) (fold note_actives a ns)
leads_moves x a ns is = record {
  fit = fit_noted x (filter (λ n. place n == 2) ns) a (moves_fit x a ns is);
  is = fold_noted (filter (λ n. place n == 2) ns) a ∙ moves_all a ns;
}

-- ---- what is handed up

-- whatever is active by the one is active by the other
abbrev Grown : Actives → Actives → Type 0
Grown a b = (id : ℕ) → is_some (a id) ≡ true → is_some (b id) ≡ true

grown_own : (id g : ℕ) (a : Actives) → Grown a (with_active id (Some g) a)
grown_own id g a k is = by (id == k)
  where
    by : (d : Bool) → is_some (if d then Some g else a k) ≡ true
    by true = refl
    by false = is

grown_notes : (ns : List Note) (a b : Actives) → Grown a b → list_any is_give ns ≡ false → Grown a (fold note_actives b ns)
grown_notes [] a b more none = more
grown_notes ((note.Begin w) ∷ ns) a b more none = grown_notes ns a b more none
grown_notes ((note.Join y h) ∷ ns) a b more none = grown_notes ns a b more none
grown_notes ((note.Leave y h) ∷ ns) a b more none = grown_notes ns a b more none
grown_notes ((note.Give y id h) ∷ ns) a b more none = absurd cc
grown_notes ((note.Own y id h) ∷ ns) a b more none = grown_notes ns a (with_active id (Some h) b) (λ k is. grown_own id h b k (more k is)) none
grown_notes ((note.Set id h) ∷ ns) a b more none = grown_notes ns a b more none
grown_notes ((note.Unset id) ∷ ns) a b more none = grown_notes ns a b more none
grown_notes ((note.Up y id Ul count sdu) ∷ ns) a b more none = grown_notes ns a b more none
grown_notes ((note.Up y id Dl count sdu) ∷ ns) a b more none = grown_notes ns a b more none
grown_notes ((note.Freed id d count) ∷ ns) a b more none = grown_notes ns a b more none
grown_notes ((note.Confirmed y) ∷ ns) a b more none = grown_notes ns a b more none
grown_notes ((note.Refused y w) ∷ ns) a b more none = grown_notes ns a b more none
grown_notes (note.Done ∷ ns) a b more none = grown_notes ns a b more none
grown_notes (note.Rejected ∷ ns) a b more none = grown_notes ns a b more none

-- where no anchor is frozen
hands_fit : (x : Node) (a t : Actives) (ns : List Note) → list_any is_give ns ≡ false → Grown (fold note_actives a ns) t → NotesFit x a ns → NotesFit x t (filter (λ n. place n == 3) ns)
hands_fit x a t [] none more is = tt
hands_fit x a t ((note.Begin w) ∷ ns) none more is = hands_fit x a t ns none more is.1
hands_fit x a t ((note.Join y h) ∷ ns) none more is = hands_fit x a t ns none more is.1
hands_fit x a t ((note.Leave y h) ∷ ns) none more is = hands_fit x a t ns none more is.1
hands_fit x a t ((note.Give y id h) ∷ ns) none more is = absurd cc
hands_fit x a t ((note.Own y id h) ∷ ns) none more is = hands_fit x (with_active id (Some h) a) t ns none more is.1
hands_fit x a t ((note.Set id h) ∷ ns) none more is = hands_fit x a t ns none more is.1
hands_fit x a t ((note.Unset id) ∷ ns) none more is = hands_fit x a t ns none more is.1
hands_fit x a t ((note.Up y id Ul count sdu) ∷ ns) none more is = ((is.0.0, more id (grown_notes ns a a (λ k at. at) none id is.0.1)), hands_fit x a t ns none more is.1)
hands_fit x a t ((note.Up y id Dl count sdu) ∷ ns) none more is = (tt, hands_fit x a t ns none more is.1)
hands_fit x a t ((note.Freed id d count) ∷ ns) none more is = hands_fit x a t ns none more is.1
hands_fit x a t ((note.Confirmed y) ∷ ns) none more is = hands_fit x a t ns none more is.1
hands_fit x a t ((note.Refused y w) ∷ ns) none more is = hands_fit x a t ns none more is.1
hands_fit x a t (note.Done ∷ ns) none more is = hands_fit x a t ns none more is.1
hands_fit x a t (note.Rejected ∷ ns) none more is = hands_fit x a t ns none more is.1

-- where nothing is handed up
no_hands_fit : (x : Node) (t : Actives) (ns : List Note) → list_any is_handing ns ≡ false → NotesFit x t (filter (λ n. place n == 3) ns)
no_hands_fit x t [] none = tt
no_hands_fit x t ((note.Begin w) ∷ ns) none = no_hands_fit x t ns none
no_hands_fit x t ((note.Join y h) ∷ ns) none = no_hands_fit x t ns none
no_hands_fit x t ((note.Leave y h) ∷ ns) none = no_hands_fit x t ns none
no_hands_fit x t ((note.Give y id h) ∷ ns) none = no_hands_fit x t ns none
no_hands_fit x t ((note.Own y id h) ∷ ns) none = no_hands_fit x t ns none
no_hands_fit x t ((note.Set id h) ∷ ns) none = no_hands_fit x t ns none
no_hands_fit x t ((note.Unset id) ∷ ns) none = no_hands_fit x t ns none
no_hands_fit x t ((note.Up y id Ul count sdu) ∷ ns) none = absurd cc
no_hands_fit x t ((note.Up y id Dl count sdu) ∷ ns) none = (tt, no_hands_fit x t ns none)
no_hands_fit x t ((note.Freed id d count) ∷ ns) none = no_hands_fit x t ns none
no_hands_fit x t ((note.Confirmed y) ∷ ns) none = no_hands_fit x t ns none
no_hands_fit x t ((note.Refused y w) ∷ ns) none = no_hands_fit x t ns none
no_hands_fit x t (note.Done ∷ ns) none = no_hands_fit x t ns none
no_hands_fit x t (note.Rejected ∷ ns) none = no_hands_fit x t ns none

hands_still : (t : Actives) (ns : List Note) → fold note_actives t (filter (λ n. place n == 3) ns) ≡ t
hands_still t [] = refl
hands_still t ((note.Begin w) ∷ ns) = hands_still t ns
hands_still t ((note.Join y h) ∷ ns) = hands_still t ns
hands_still t ((note.Leave y h) ∷ ns) = hands_still t ns
hands_still t ((note.Give y id h) ∷ ns) = hands_still t ns
hands_still t ((note.Own y id h) ∷ ns) = hands_still t ns
hands_still t ((note.Set id h) ∷ ns) = hands_still t ns
hands_still t ((note.Unset id) ∷ ns) = hands_still t ns
hands_still t ((note.Up y id Ul count sdu) ∷ ns) = hands_still t ns
hands_still t ((note.Up y id Dl count sdu) ∷ ns) = hands_still t ns
hands_still t ((note.Freed id d count) ∷ ns) = hands_still t ns
hands_still t ((note.Confirmed y) ∷ ns) = hands_still t ns
hands_still t ((note.Refused y w) ∷ ns) = hands_still t ns
hands_still t (note.Done ∷ ns) = hands_still t ns
hands_still t (note.Rejected ∷ ns) = hands_still t ns

leads_hands : (x : Node) (a : Actives) (ns : List Note) → GiveOrHand ns → NotesFit x a ns → Leads x (fold note_actives a ns) (notes_at ns 3) (fold note_actives a ns)
leads_hands x a ns either is =
    let t = fold note_actives a ns in
    record { fit = fit_noted x (filter (λ n. place n == 3) ns) t (by either); is = fold_noted (filter (λ n. place n == 3) ns) t ∙ hands_still t ns }
  where
    by : GiveOrHand ns → NotesFit x (fold note_actives a ns) (filter (λ n. place n == 3) ns)
    by (inl none) = hands_fit x a (fold note_actives a ns) ns none (λ k at. at) is
    by (inr none) = no_hands_fit x (fold note_actives a ns) ns none

-- ---- lines in order

pub leads_ordered : (x : Node) (a : Actives) (ns : List Note) (ss : List Send) → GiveOrHand ns → NotesFit x a ns → Leads x a (ordered ns ss) (fold note_actives a ns)
leads_ordered x a ns ss either is =
    let t = fold note_actives a ns in
    let first = flat_map (notes_at ns) (0 ∷ 1 ∷ 2 ∷ 3 ∷ 4 ∷ []) in
    let mid = flat_map (sends_on ss) all_links in
    let last = flat_map (notes_at ns) (5 ∷ 6 ∷ []) in
    leads_then x a t t (first ++ mid) last
    (leads_then x a t t first mid
    (leads_then x a a t (notes_at ns 0) (flat_map (notes_at ns) (1 ∷ 2 ∷ 3 ∷ 4 ∷ [])) (still_0 x a ns)
    (leads_then x a a t (notes_at ns 1) (flat_map (notes_at ns) (2 ∷ 3 ∷ 4 ∷ [])) (still_1 x a ns)
    (leads_then x a t t (notes_at ns 2) (flat_map (notes_at ns) (3 ∷ 4 ∷ [])) (leads_moves x a ns is)
    (leads_then x t t t (notes_at ns 3) (flat_map (notes_at ns) (4 ∷ [])) (leads_hands x a ns either is)
    (leads_then x t t t (notes_at ns 4) [] (still_4 x t ns) (leads_nothing x t)))))) (leads_links x t ss all_links))
    (leads_then x t t t (notes_at ns 5) (flat_map (notes_at ns) (6 ∷ [])) (still_5 x t ns) (leads_then x t t t (notes_at ns 6) [] (still_6 x t ns) (leads_nothing x t)))

-- ---- where a command ends

both_sides : (ns : List Note) → notes_before ns ++ notes_after ns ≡ ns
both_sides [] = refl
both_sides (n ∷ ns) = by (is_end n) (both_sides ns)
  where
    by : (b : Bool) → notes_before ns ++ notes_after ns ≡ ns → (if b then n ∷ [] else n ∷ notes_before ns) ++ (if b then ns else notes_after ns) ≡ n ∷ ns
    by true more = refl
    by false more = ap (λ zs. n ∷ zs) more

none_first : (f : Note → Bool) (ns ms : List Note) → list_any f (ns ++ ms) ≡ false → (list_any f ns ≡ false) × (list_any f ms ≡ false)
none_first f ns ms none = by (list_any f ns) (list_any f ms) (sym (list_any-append f ns ms) ∙ none)
  where
    by : (b d : Bool) → (b || d) ≡ false → (b ≡ false) × (d ≡ false)
    by true d is = absurd cc
    by false d is = (refl, is)

split_either : (ns ms : List Note) → GiveOrHand (ns ++ ms) → GiveOrHand ns × GiveOrHand ms
split_either ns ms (inl none) = let so = none_first is_give ns ms none in (inl so.0, inl so.1)
split_either ns ms (inr none) = let so = none_first is_handing ns ms none in (inr so.0, inr so.1)

pub leads_ended : (x : Node) (a : Actives) (ns : List Note) (ss : List Send) → GiveOrHand ns → NotesFit x a ns → Leads x a (ended ns ss) (fold note_actives a ns)
leads_ended x a ns ss either is =
    let before = notes_before ns in
    let later = notes_after ns in
    let parts = split_either before later (subst GiveOrHand (sym (both_sides ns)) either) in
    let fits : NotesFit x a (before ++ later) = subst (NotesFit x a) (sym (both_sides ns)) is in
    let mid = fold note_actives a before in
    let idle = map (λ (s : Send). line.Send s.0 s.1) (filter is_idle_release ss) in
    let done : fold note_actives mid later ≡ fold note_actives a ns = sym (fold_notes before later a) ∙ ap (fold note_actives a) (both_sides ns) in
    subst (Leads x a (ended ns ss)) done
    (leads_then x a mid (fold note_actives mid later) (ordered before (sends_before ss) ++ idle) (ordered later (sends_after ss))
    (leads_then x a mid mid (ordered before (sends_before ss)) idle (leads_ordered x a before (sends_before ss) parts.0 (fit_first x before later a fits)) (leads_sends x mid (filter is_idle_release ss)))
    (leads_ordered x mid later (sends_after ss) parts.1 (fit_later x before later a fits)))

-- the lines of an outcome
pub leads_lines : (x : Node) (a : Actives) (o : Outcome) → GiveOrHand o.notes → NotesFit x a o.notes → Leads x a (lines_of o) (fold note_actives a o.notes)
leads_lines x a o either is = by (list_any is_end o.notes)
  where
    by : (b : Bool) → Leads x a (lines_by b o) (fold note_actives a o.notes)
    by true = leads_ended x a o.notes o.sends either is
    by false = leads_ordered x a o.notes o.sends either is
