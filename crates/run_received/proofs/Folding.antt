-- What the lines of an event change of an uplink, one after another; most hand up at most.
use Rattle.std.proofs.Common.{ℕ, ◌≡◌, ◌==◌, ◌++◌, Bool, true, false, List, [], ◌∷◌, Option, Some, None, refl, sym, ap, subst, ◌∙◌, inl, inr, append_assoc}
use Rattle.std.specs.Prelude.{filter, fold, if◌then◌else◌, map}
use Rattle.std.specs.List.{AllByRecursion, flat_map, list_any}
use Rattle.std.specs.Option.{option_map}
use Rattle.std.proofs.lemmas.Bool.{cases_Bool, eq-eqb, eqb-true}
use Rattle.std.proofs.lemmas.List.{append-nil}
use Rattle.dc_base.specs.Links.{all_links, is_same_link}
use Rattle.dc_base.specs.declared.events.Line.{Line}
use Rattle.dc_base.specs.declared.events.Line.TheVariants as line
use Rattle.dc_base.specs.declared.events.Note.{Note}
use Rattle.dc_base.specs.declared.events.Note.TheVariants as note
use Rattle.dc_base.specs.declared.flights.Flight.{Flight}
use Rattle.dc_base.specs.declared.flights.Flight.TheVariants as flight
use Rattle.dc_base.specs.declared.nodes.Dir.TheVariants.{Dl, Ul}
use Rattle.dc_base.specs.declared.nodes.LinkId.{LinkId}
use Rattle.dc_base.specs.declared.nodes.Node.{Node}
use Rattle.dc_base.specs.declared.records.Rec.{Rec}
use Rattle.dc_base.specs.declared.records.Rec.TheVariants as rec
use Rattle.claims.specs.Noted.{noted}
use Rattle.claims.specs.Past.{Past}
use Rattle.node_rules.specs.Choices.{Send}
use Rattle.node_rules.specs.Lines.{lines_by, lines_of, notes_at, ordered, place, sends_on}
use Rattle.node_rules.specs.Lines.{is_end}
use Rattle.node_rules.specs.Master.{handed_up}
use Rattle.node_rules.specs.declared.inputs.Outcome.{Outcome}
use Rattle.pdcp_rx.specs.Entries.{Entry}
use Rattle.run_uplinks.specs.Seen.{Seen, Uplink, changed_in, freed_to, seen, set_to, unset, uplink_of, with_line, with_note}
use Rattle.run_uplinks.specs.Uplinks.{Descend}
use Rattle.run_uplinks.proofs.Establishments.{KeepsName, descend_each, descend_latest}
use Rattle.run_uplinks.proofs.Lines.{NoneBegins}
use Rattle.run_uplinks.proofs.Seeing.{begins_line, noted_seen}
use Rattle.run_received.specs.Changes.{line_on}
use Rattle.run_received.specs.Receipts.{Receipt, receipt}
use Rattle.run_received.proofs.Latest.{distinct_of}
use Rattle.run_received.proofs.Noting.{map_again, noted_receipt, same_receipt}

-- ---- names stay

changed_down : (above : ℕ) (f : Uplink → Uplink) → KeepsName f → (o : Option Uplink) (us : List Uplink) → Descend above us → Descend above (changed_in f us o)
changed_down above f keeps None us down = down
changed_down above f keeps (Some u) us down = descend_each above (λ (x : Uplink). if x.g == u.g then f x else x) (λ x. by x (x.g == u.g)) us down
  where
    by : (x : Uplink) (b : Bool) → (if b then f x else x).g ≡ x.g
    by x true = keeps x
    by x false = refl

note_down : (above : ℕ) (s : Seen) (n : Note) → Descend above s.bearers → Descend above (with_note s n).bearers
note_down above s (note.Begin w) down = down
note_down above s (note.Join x g) down = down
note_down above s (note.Leave x g) down = down
note_down above s (note.Give x id g) down = down
note_down above s (note.Own x id g) down = down
note_down above s (note.Set id g) down = changed_down above (set_to g) (λ u. refl) _ s.bearers down
note_down above s (note.Unset id) down = descend_latest above id unset (λ u. refl) s.bearers down
note_down above s (note.Up x id d count sdu) down = down
note_down above s (note.Freed id Dl count) down = down
note_down above s (note.Freed id Ul count) down = descend_latest above id (freed_to count) (λ u. refl) s.bearers down
note_down above s (note.Confirmed x) down = down
note_down above s (note.Refused x w) down = down
note_down above s note.Done down = down
note_down above s note.Rejected down = down

line_down : (above : ℕ) (s : Seen) (x : Line) → Descend above s.bearers → Descend above (with_line s x).bearers
line_down above s (line.Note n) down = note_down above s n down
line_down above s (line.Send l f) down = down
line_down above s (line.Event e) down = down
line_down above s (line.Answer a) down = down

-- the names of establishments descend, from below this one
abbrev pub NamesDescend : ℕ → Past → Type 0
NamesDescend above p = Descend above (map uplink_of p.bearers)

pub noted_down : (above : ℕ) (p : Past) (x : Line) → begins_line x ≡ false → NamesDescend above p → NamesDescend above (noted p x)
noted_down above p x no' down = subst (λ (s : Seen). Descend above s.bearers) (sym (noted_seen p x no')) (line_down above (seen p) x down)

-- ---- lines

-- lines one after another, each with the past up to it
abbrev pub lines_on : Past → List Line → Receipt → Receipt
lines_on p [] r = r
lines_on p (x ∷ xs) r = lines_on (noted p x) xs (line_on p x r)

pub lines_receipt : (xs : List Line) (p : Past) (id above : ℕ) → NoneBegins xs → NamesDescend above p
    → receipt (fold noted p xs) id ≡ option_map (lines_on p xs) (receipt p id)
lines_receipt [] p id above none down = sym (same_receipt (receipt p id))
lines_receipt (x ∷ xs) p id above none down =
    lines_receipt xs (noted p x) id above none.1 (noted_down above p x none.0 down)
    ∙ ap (option_map (lines_on (noted p x) xs)) (noted_receipt p x id none.0 (distinct_of above p.bearers down))
    ∙ map_again (lines_on (noted p x) xs) (line_on p x) (receipt p id)

-- ---- lines that hand up at most

-- what a line hands up in the uplink of an identity
abbrev pub up_of : ℕ → Line → List Entry
up_of id (line.Note (note.Up x k Ul count sdu)) = if id == k then (count, sdu) ∷ [] else []
up_of id _ = []

-- what several do
abbrev pub ups_in : ℕ → List Line → List Entry
ups_in id xs = flat_map (up_of id) xs

-- a line hands up at most: it says nothing of who has an entity, nor of the terminal's window, and carries no plan out
abbrev pub hands_only : Line → Bool
hands_only (line.Note (note.Own x id g)) = false
hands_only (line.Note (note.Give x id g)) = false
hands_only (line.Note (note.Set id g)) = false
hands_only (line.Note (note.Unset id)) = false
hands_only (line.Note (note.Freed id Ul count)) = false
hands_only (line.Note (note.Begin w)) = false
hands_only (line.Send l (flight.Ctl (rec.Reconf q key))) = false
hands_only _ = true

-- with what was handed up
abbrev pub with_ups : List Entry → Receipt → Receipt
with_ups es r = record r { handed = r.handed ++ es }

pub no_ups : (r : Receipt) → r ≡ with_ups [] r
no_ups r = ap (λ (es : List Entry). record r { handed = es }) (sym (append-nil r.handed))

handing_record : (p : Past) (l : LinkId) (c : Rec) (r : Receipt) → hands_only (line.Send l (flight.Ctl c)) ≡ true → line_on p (line.Send l (flight.Ctl c)) r ≡ r
handing_record p l (rec.Reconf q key) r is = absurd (let bad : false ≡ true = is in cc)
handing_record p l (rec.Rcomp g) r is = refl
handing_record p l (rec.Scgf pairs) r is = refl
handing_record p l (rec.Recov k) r is = refl
handing_record p l (rec.Recovd k) r is = refl
handing_record p l (rec.Addreq q key) r is = refl
handing_record p l (rec.Addack g) r is = refl
handing_record p l (rec.Addrej g) r is = refl
handing_record p l (rec.Modreq q key) r is = refl
handing_record p l (rec.Modack g) r is = refl
handing_record p l (rec.Modrej g) r is = refl
handing_record p l (rec.Recfg g) r is = refl
handing_record p l (rec.Relreq q) r is = refl
handing_record p l (rec.Relack g) r is = refl
handing_record p l (rec.Relrej g) r is = refl
handing_record p l (rec.Uecr g) r is = refl
handing_record p l (rec.Snst s) r is = refl
handing_record p l (rec.Moved g k) r is = refl
handing_record p l (rec.Scgn k g) r is = refl
handing_record p l rec.Modrqd r is = refl
handing_record p l (rec.Modcnf g) r is = refl
handing_record p l (rec.Modref w) r is = refl
handing_record p l rec.Chgrqd r is = refl
handing_record p l (rec.Chgcnf q) r is = refl
handing_record p l (rec.Chgref w) r is = refl
handing_record p l rec.Relrqd r is = refl
handing_record p l (rec.Relcnf q) r is = refl

handing_send : (p : Past) (l : LinkId) (f : Flight) (r : Receipt) → hands_only (line.Send l f) ≡ true → line_on p (line.Send l f) r ≡ r
handing_send p l (flight.Ctl c) r is = handing_record p l c r is
handing_send p l (flight.Air id g num tag pdu) r is = refl
handing_send p l (flight.Ack id g num) r is = refl
handing_send p l (flight.Tun tag packet) r is = refl
handing_send p l (flight.Sdu id g sdu) r is = refl
handing_send p l (flight.End id g) r is = refl
handing_send p l (flight.Told id g count) r is = refl

pub handing : (p : Past) (x : Line) (r : Receipt) → hands_only x ≡ true → line_on p x r ≡ with_ups (up_of r.id x) r
handing p (line.Note (note.Begin w)) r is = no_ups r
handing p (line.Note (note.Join x g)) r is = no_ups r
handing p (line.Note (note.Leave x g)) r is = no_ups r
handing p (line.Note (note.Give x id g)) r is = absurd (let bad : false ≡ true = is in cc)
handing p (line.Note (note.Own x id g)) r is = absurd (let bad : false ≡ true = is in cc)
handing p (line.Note (note.Set id g)) r is = absurd (let bad : false ≡ true = is in cc)
handing p (line.Note (note.Unset id)) r is = absurd (let bad : false ≡ true = is in cc)
handing p (line.Note (note.Up x k Ul count sdu)) r is =
    elim (cases_Bool (r.id == k)) [ inl here ↦ rw here refl | inr apart ↦ rw apart (no_ups r) ]
handing p (line.Note (note.Up x k Dl count sdu)) r is = no_ups r
handing p (line.Note (note.Freed id Ul count)) r is = absurd (let bad : false ≡ true = is in cc)
handing p (line.Note (note.Freed id Dl count)) r is = no_ups r
handing p (line.Note (note.Confirmed x)) r is = no_ups r
handing p (line.Note (note.Refused x w)) r is = no_ups r
handing p (line.Note note.Done) r is = no_ups r
handing p (line.Note note.Rejected) r is = no_ups r
handing p (line.Send l f) r is = handing_send p l f r is ∙ no_ups r
handing p (line.Event e) r is = no_ups r
handing p (line.Answer a) r is = no_ups r

-- several lines
pub all_handing : (xs : List Line) (p : Past) (r : Receipt) → AllByRecursion (λ x. hands_only x ≡ true) xs → lines_on p xs r ≡ with_ups (ups_in r.id xs) r
all_handing [] p r all = no_ups r
all_handing (x ∷ xs) p r all =
    ap (lines_on (noted p x) xs) (handing p x r all.0)
    ∙ all_handing xs (noted p x) (with_ups (up_of r.id x) r) all.1
    ∙ ap (λ (es : List Entry). record r { handed = es }) (append_assoc r.handed (up_of r.id x) (ups_in r.id xs))

-- ---- of an outcome

pub ups_then : (id : ℕ) (xs ys : List Line) → ups_in id (xs ++ ys) ≡ ups_in id xs ++ ups_in id ys
ups_then id [] ys = refl
ups_then id (x ∷ xs) ys = ap (λ es. up_of id x ++ es) (ups_then id xs ys) ∙ sym (append_assoc (up_of id x) (ups_in id xs) (ups_in id ys))

-- notes as lines
abbrev pub as_lines : List Note → List Line
as_lines ns = map (λ n. line.Note n) ns

-- only notes of the place of `up` hand up
other_none : (id : ℕ) (n : Note) → (place n == 3) ≡ false → up_of id (line.Note n) ≡ []
other_none id (note.Up x k d count sdu) other = absurd (let bad : true ≡ false = other in cc)
other_none id (note.Begin w) other = refl
other_none id (note.Join x g) other = refl
other_none id (note.Leave x g) other = refl
other_none id (note.Give x k g) other = refl
other_none id (note.Own x k g) other = refl
other_none id (note.Set k g) other = refl
other_none id (note.Unset k) other = refl
other_none id (note.Freed k d count) other = refl
other_none id (note.Confirmed x) other = refl
other_none id (note.Refused x w) other = refl
other_none id note.Done other = refl
other_none id note.Rejected other = refl

ups_there : (id : ℕ) (ns : List Note) → ups_in id (notes_at ns 3) ≡ ups_in id (as_lines ns)
ups_there id [] = refl
ups_there id (n ∷ ns) =
    elim (cases_Bool (place n == 3)) [
      | inl here ↦ rw here (ap (λ es. up_of id (line.Note n) ++ es) (ups_there id ns))
      | inr other ↦ rw other (ups_there id ns ∙ ap (λ es. es ++ ups_in id (as_lines ns)) (sym (other_none id n other)))
    ]

ups_elsewhere : (id k : ℕ) (ns : List Note) → (k == 3) ≡ false → ups_in id (notes_at ns k) ≡ []
ups_elsewhere id k [] apart = refl
ups_elsewhere id k (n ∷ ns) apart =
    elim (cases_Bool (place n == k)) [
      | inl here ↦
          let other : (place n == 3) ≡ false = ap (λ j. j == 3) (eqb-true (place n) k here) ∙ apart in
          rw here (ap (λ es. es ++ ups_in id (notes_at ns k)) (other_none id n other) ∙ ups_elsewhere id k ns apart)
      | inr there ↦ rw there (ups_elsewhere id k ns apart)
    ]

sends_none : (id : ℕ) (ss : List Send) → ups_in id (map (λ (x : Send). line.Send x.0 x.1) ss) ≡ []
sends_none id [] = refl
sends_none id (x ∷ ss) = sends_none id ss

pub sends_on_none : (id : ℕ) (ss : List Send) (ls : List LinkId) → ups_in id (flat_map (sends_on ss) ls) ≡ []
sends_on_none id ss [] = refl
sends_on_none id ss (l ∷ ls) =
    ups_then id (sends_on ss l) (flat_map (sends_on ss) ls)
    ∙ ap (λ es. es ++ ups_in id (flat_map (sends_on ss) ls)) (sends_none id (filter (λ (x : Send). is_same_link l x.0) ss))
    ∙ sends_on_none id ss ls

-- what the lines of an outcome hand up is what its notes do
pub ups_ordered : (id : ℕ) (ns : List Note) (ss : List Send) → ups_in id (ordered ns ss) ≡ ups_in id (as_lines ns)
ups_ordered id ns ss =
    let at = notes_at ns in
    let a = flat_map at (0 ∷ 1 ∷ 2 ∷ 3 ∷ 4 ∷ []) in
    let b = flat_map (sends_on ss) all_links in
    let d = flat_map at (5 ∷ 6 ∷ []) in
    ups_then id (a ++ b) d
    ∙ ap (λ es. es ++ ups_in id d) (ups_then id a b ∙ ap (λ es. ups_in id a ++ es) (sends_on_none id ss all_links) ∙ append-nil (ups_in id a))
    ∙ ap (λ es. ups_in id a ++ es) last ∙ append-nil (ups_in id a) ∙ first
  where
    skip : (k : ℕ) (js : List ℕ) → (k == 3) ≡ false → ups_in id (flat_map (notes_at ns) (k ∷ js)) ≡ ups_in id (flat_map (notes_at ns) js)
    skip k js apart =
        ups_then id (notes_at ns k) (flat_map (notes_at ns) js)
        ∙ ap (λ es. es ++ ups_in id (flat_map (notes_at ns) js)) (ups_elsewhere id k ns apart)

    last : ups_in id (flat_map (notes_at ns) (5 ∷ 6 ∷ [])) ≡ []
    last = skip 5 (6 ∷ []) refl ∙ skip 6 [] refl

    first : ups_in id (flat_map (notes_at ns) (0 ∷ 1 ∷ 2 ∷ 3 ∷ 4 ∷ [])) ≡ ups_in id (as_lines ns)
    first =
        skip 0 (1 ∷ 2 ∷ 3 ∷ 4 ∷ []) refl ∙ skip 1 (2 ∷ 3 ∷ 4 ∷ []) refl ∙ skip 2 (3 ∷ 4 ∷ []) refl
        ∙ ups_then id (notes_at ns 3) (flat_map (notes_at ns) (4 ∷ []))
        ∙ ap (λ es. ups_in id (notes_at ns 3) ++ es) (skip 4 [] refl)
        ∙ append-nil (ups_in id (notes_at ns 3)) ∙ ups_there id ns

-- the payloads handed up, as notes
pub ups_handed : (x : Node) (id : ℕ) (es : List Entry) → ups_in id (as_lines (handed_up x id Ul es)) ≡ es
ups_handed x id [] = refl
ups_handed x id (e ∷ es) = rw (eq-eqb id id refl) (ap (λ xs. e ∷ xs) (ups_handed x id es))

-- what an outcome changes of an uplink where no command ends and its lines hand up at most
pub outcome_hands : (o : Outcome) (p : Past) (r : Receipt) → list_any is_end o.notes ≡ false → AllByRecursion (λ x. hands_only x ≡ true) (lines_of o)
    → lines_on p (lines_of o) r ≡ with_ups (ups_in r.id (as_lines o.notes)) r
outcome_hands o p r none all =
    all_handing (lines_of o) p r all
    ∙ ap (λ (xs : List Line). with_ups (ups_in r.id xs) r) (ap (λ b. lines_by b o) none)
    ∙ ap (λ es. with_ups es r) (ups_ordered r.id o.notes o.sends)
