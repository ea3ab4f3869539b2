-- Answers tell pictures and sheets apart.
use Rattle.std.proofs.Common.{◌≡◌, ℕ, zero, suc, ◌+◌, ◌-◌, ◌<◌, ◌≤◌, Bool, true, false, cond, ◌&&◌, ltb, leb, List, [], ◌∷◌, ◌++◌, length, get_or, drop, replicate, Some, None, Ok, Err, Option, sym, refl, ap, ◌∙◌, subst, append-nil, arith}
use lib.ListN.{length-replicate}
use Rattle.std.proofs.lemmas.List.{drop_all}
use Rattle.std.proofs.lemmas.Bool.{le-leb, le-ltb, cond-true, cond-false, and_from, or_right}
use Rattle.deck.specs.Tape.{nth}
use Rattle.records.specs.declared.layout.Correction.{Correction}
use Rattle.records.specs.declared.layout.Correction.TheVariants.{Corrected, Uncorrected}
use Rattle.records.specs.declared.layout.Sensor.{Sensor}
use Rattle.records.specs.declared.layout.Sensor.TheVariants.{Mss, Rbv}
use Rattle.survey.specs.Pictures.{Picture, Sheets}
use Rattle.survey.specs.Recordings.{Body}
use Rattle.survey.specs.Recordings as recordings
use Rattle.survey.specs.Surveys.{Fault}
use Rattle.survey.specs.Validity.{Whole}
use Rattle.reader.specs.Answers.{Told, code, delivered, refused, sensor_letter, correction_letter, told_by}
use Rattle.reader.specs.Bodies.{Delivery, code_of}
use Rattle.reader.specs.Refusals.{caller}
use Rattle.reader.specs.declared.call.Call.{Call}
use Rattle.reader.specs.declared.call.Call.TheVariants.{Survey, Band, Ident, Line, Sheet}
use Rattle.reader.specs.Pictured.{body_size, line_or, row_line, pictured_line, of_kind, no_sheets, sheet_or, band_sheet, pictured_sheet, pictured_ident}
use Rattle.witness.specs.Pictured.{if_known, code_if_known, delivery, outline_of, pictured_reply, pictured_behind}
use Rattle.witness.specs.Promises.{Callable, AllBytes, Buffer, Possible, OfPicture, Five}
use Rattle.witness.specs.Replies.{Question, Reply, is_survey, has_survey}
use Rattle.reader.proofs.Proper.{own_place, byte_at, Sized, sized_at, Rows, Sheeted, SheetedAll, Proper}

-- Equal lists, and equal pairs.
module _ {X : Type 0} where
  head_same : {x y : X} {xs ys : List X} → x ∷ xs ≡ y ∷ ys → x ≡ y
  head_same e = cc

  tail_same : {x y : X} {xs ys : List X} → x ∷ xs ≡ y ∷ ys → xs ≡ ys
  tail_same e = cc

  some_same : {x y : X} → Some x ≡ Some y → x ≡ y
  some_same e = cc

  no_some : {Y : Type 0} {x : X} → None ≡ Some x → Y
  no_some e = cc

  -- Lists of at most so many elements that agree in each.
  same_all : (n : ℕ) (xs ys : List X) → length xs ≤ n → length ys ≤ n → ((k : ℕ) → k < n → nth xs k ≡ nth ys k) → xs ≡ ys
  same_all n [] [] a b h = refl
  same_all n [] (y ∷ ys) a b h = no_some (h 0 (omega (arith, b)))
  same_all n (x ∷ xs) [] a b h = no_some (sym (h 0 (omega (arith, a))))
  same_all zero (x ∷ xs) (y ∷ ys) a b h = absurd (omega (arith, a))
  same_all (suc n) (x ∷ xs) (y ∷ ys) a b h =
      ap (λ k. k ∷ xs) (some_same (h 0 (omega arith))) ∙ ap (λ k. y ∷ k) (same_all n xs ys (omega (arith, a)) (omega (arith, b)) (λ k w. h (suc k) (omega (arith, w))))

  same_get : (d : X) (xs ys : List X) → length xs ≡ length ys → ((k : ℕ) → k < length xs → get_or xs k d ≡ get_or ys k d) → xs ≡ ys
  same_get d [] [] e h = refl
  same_get d [] (y ∷ ys) e h = absurd (omega (arith, e))
  same_get d (x ∷ xs) [] e h = absurd (omega (arith, e))
  same_get d (x ∷ xs) (y ∷ ys) e h = ap (λ k. k ∷ xs) (h 0 (omega arith)) ∙ ap (λ k. y ∷ k) (same_get d xs ys (omega (arith, e)) (λ k w. h (suc k) (omega (arith, w))))

zeros : ℕ → List ℕ
zeros n = replicate n 0

zero_bytes : (n : ℕ) → AllBytes (replicate n 0)
zero_bytes zero = tt
zero_bytes (suc n) = (omega arith, zero_bytes n)

zeros_are : (n : ℕ) → n ≤ 5382 → Buffer (replicate n 0)
zeros_are n h = let long = length-replicate {A = ℕ} n 0 in (zero_bytes n, omega (arith, long))

size_few : (s : Sensor) → body_size s ≤ 5382
size_few Mss = omega arith
size_few Rbv = omega arith

empty : Buffer []
empty = (tt, omega arith)

-- What a delivery into a buffer of just its length tells.
abbrev Fills : ℕ → Delivery → Type 0
Fills n (Ok body) = length body ≡ n
Fills n (Err e) = Unit {0}

same_told : (d e : Delivery) (n : ℕ) → Fills n d → Fills n e → delivery d (replicate n 0) ≡ delivery e (replicate n 0) → d ≡ e
same_told (Ok a) (Ok b) n f g e =
    let long = length-replicate {A = ℕ} n 0 in
    let buffers : a ++ drop (length a) (replicate n 0) ≡ b ++ drop (length b) (replicate n 0) = ap (λ (r : Reply). r.1) e in
    let left = ap (λ t. a ++ t) (drop_all (length a) (replicate n 0) (omega (arith, f, long))) ∙ append-nil a in
    let right = ap (λ t. b ++ t) (drop_all (length b) (replicate n 0) (omega (arith, g, long))) ∙ append-nil b in
    ap Ok (sym left ∙ buffers ∙ right)
same_told (Ok a) (Err m) n f g e = let u : ◌≡◌ {A = Told} (delivered (length a)) (refused (caller m)) = ap (λ (r : Reply). r.0) e in cc
same_told (Err m) (Ok b) n f g e = let u : ◌≡◌ {A = Told} (refused (caller m)) (delivered (length b)) = ap (λ (r : Reply). r.0) e in cc
same_told (Err m) (Err k) n f g e =
    let u : ◌≡◌ {A = Told} (refused (caller m)) (refused (caller k)) = ap (λ (r : Reply). r.0) e in
    let w : caller m ≡ caller k = cc in ap (λ (x : Fault). Err x.0) w

-- The outline.
same_sensor : (a b : Sensor) → sensor_letter a ≡ sensor_letter b → a ≡ b
same_sensor Mss Mss e = refl
same_sensor Mss Rbv e = absurd (omega (arith, e))
same_sensor Rbv Mss e = absurd (omega (arith, e))
same_sensor Rbv Rbv e = refl

same_correction : (a b : Correction) → correction_letter a ≡ correction_letter b → a ≡ b
same_correction Corrected Corrected e = refl
same_correction Corrected Uncorrected e = absurd (omega (arith, e))
same_correction Uncorrected Corrected e = absurd (omega (arith, e))
same_correction Uncorrected Uncorrected e = refl

record Outlined (p q : Picture) : Type 0 where
  sensor : p.sensor ≡ q.sensor
  mission : p.mission ≡ q.mission
  correction : p.correction ≡ q.correction
  lines : p.lines ≡ q.lines

same_outline : (p q : Picture) → outline_of p ≡ outline_of q → Outlined p q
same_outline p q e =
    let a : sensor_letter p.sensor ≡ sensor_letter q.sensor = cc in
    let b : correction_letter p.correction ≡ correction_letter q.correction = cc in
    record { sensor = same_sensor p.sensor q.sensor a; mission = cc; correction = same_correction p.correction q.correction b; lines = cc }

same_code : (a b : Option ℕ) → told_by code (code_of a) ≡ told_by code (code_of b) → a ≡ b
same_code (Some a) (Some b) e = let k : a ≡ b = cc in ap Some k
same_code (Some a) None e = cc
same_code None (Some b) e = cc
same_code None None e = refl

-- A line by its place in the picture.
row_at : (size lines i : ℕ) (rs : List (List recordings.Line)) → Rows size lines rs → i < length rs → (length (get_or rs i []) ≡ lines) × ((j : ℕ) → Sized size (get_or (get_or rs i []) j None))
row_at size lines i [] w h = absurd (omega arith)
row_at size lines zero (r ∷ rs) w h = (w.0.0, λ j. sized_at size j r w.0.1)
row_at size lines (suc i) (r ∷ rs) w h = row_at size lines i rs w.1 (omega arith)

line_fills : (n : ℕ) (x : recordings.Line) → Sized n x → Fills n (line_or x)
line_fills n (Some body) h = h
line_fills n None h = tt

same_line : (x y : recordings.Line) → line_or x ≡ line_or y → x ≡ y
same_line (Some a) (Some b) e = let k : a ≡ b = cc in ap Some k
same_line (Some a) None e = cc
same_line None (Some b) e = cc
same_line None None e = refl

abbrev room_for : Picture → List ℕ
room_for p = replicate (body_size p.sensor) 0

line_at : (p : Picture) (s : List Sheets) → Proper p s → (i j : ℕ) → i < length p.codes → j < p.lines → pictured_line p (get_or p.codes i 0) (j + 1) (length (room_for p)) ≡ line_or (get_or (get_or p.rows i []) j None)
line_at p s pr i j h k =
    let at = own_place 0 0 i p.codes pr.codes_rise h in
    let z : 0 + i ≡ i = omega arith in
    let long = length-replicate {A = ℕ} (body_size p.sensor) 0 in
    let back : j + 1 - 1 ≡ j = omega arith in
    ap (λ o. row_line p o (j + 1) (length (room_for p))) (at ∙ ap Some z)
    ∙ cond-true (leb 1 (j + 1) && leb (j + 1) p.lines) _ (Err 43) (and_from (leb 1 (j + 1)) (leb (j + 1) p.lines) (le-leb 1 (j + 1) (omega arith)) (le-leb (j + 1) p.lines (omega (arith, k))))
    ∙ cond-false (ltb (length (room_for p)) (body_size p.sensor)) (Err 45) _ (le-ltb (length (room_for p)) (body_size p.sensor) (omega (arith, long)))
    ∙ ap (λ m. line_or (get_or (get_or p.rows i []) m None)) back

-- A sheet by its place.
sheets_at : (size i : ℕ) (ss : List Sheets) → SheetedAll size ss → i < length ss → Sheeted size (get_or ss i no_sheets)
sheets_at size i [] w h = absurd (omega arith)
sheets_at size zero (s ∷ ss) w h = w.0
sheets_at size (suc i) (s ∷ ss) w h = sheets_at size i ss w.1 (omega arith)

whole-nth : (size k : ℕ) (bodies : List Body) → Whole size bodies → (o : Option Body) → nth bodies k ≡ o → Fills size (sheet_or o size size)
whole-nth size k [] w o e = subst (λ x. Fills size (sheet_or x size size)) e tt
whole-nth size zero (b ∷ bodies) w o e = subst (λ x. Fills size (sheet_or x size size)) e (one (ltb size size))
  where
    one : (t : Bool) → Fills size (cond t (Err 45) (Ok b))
    one true = tt
    one false = w.0
whole-nth size (suc k) (b ∷ bodies) w o e = whole-nth size k bodies w.1 o e

sheet_room : (size : ℕ) (body : Body) → sheet_or (Some body) size size ≡ Ok body
sheet_room size body = cond-false (ltb size size) (Err 45) (Ok body) (le-ltb size size (omega arith))

same_sheet : (size : ℕ) (a b : Option Body) → sheet_or a size size ≡ sheet_or b size size → a ≡ b
same_sheet size (Some a) (Some b) e = let w : ◌≡◌ {A = Delivery} (Ok a) (Ok b) = sym (sheet_room size a) ∙ e ∙ sheet_room size b in let k : a ≡ b = cc in ap Some k
same_sheet size (Some a) None e = let w : ◌≡◌ {A = Delivery} (Ok a) (Err 44) = sym (sheet_room size a) ∙ e in cc
same_sheet size None (Some b) e = let w : ◌≡◌ {A = Delivery} (Err 44) (Ok b) = e ∙ sheet_room size b in cc
same_sheet size None None e = refl

-- The five calls.
abbrev picture_of : Sensor → ℕ → Correction → List ℕ → List ℕ → ℕ → List (List recordings.Line) → Picture
picture_of a b c d e f g = record { sensor = a; mission = b; correction = c; ident = d; codes = e; lines = f; rows = g }

same_pictures : (p q : Picture) → p.sensor ≡ q.sensor → p.mission ≡ q.mission → p.correction ≡ q.correction → p.ident ≡ q.ident → p.codes ≡ q.codes → p.lines ≡ q.lines → p.rows ≡ q.rows → p ≡ q
same_pictures p q a b c d e f g =
    ap (λ k. picture_of k p.mission p.correction p.ident p.codes p.lines p.rows) a
    ∙ ap (λ k. picture_of q.sensor k p.correction p.ident p.codes p.lines p.rows) b
    ∙ ap (λ k. picture_of q.sensor q.mission k p.ident p.codes p.lines p.rows) c
    ∙ ap (λ k. picture_of q.sensor q.mission q.correction k p.codes p.lines p.rows) d
    ∙ ap (λ k. picture_of q.sensor q.mission q.correction q.ident k p.lines p.rows) e
    ∙ ap (λ k. picture_of q.sensor q.mission q.correction q.ident q.codes k p.rows) f
    ∙ ap (λ k. picture_of q.sensor q.mission q.correction q.ident q.codes q.lines k) g

surveyed-then : (past : List Question) → has_survey (past ++ (Survey, []) ∷ []) ≡ true
surveyed-then [] = refl
surveyed-then (q ∷ past) = or_right (is_survey q.0) (has_survey (past ++ (Survey, []) ∷ [])) (surveyed-then past)

module _ (p q : Picture) (s u : List Sheets) (pp : Proper p s) (pq : Proper q u) (past : List Question) (hear : (qs : List Question) → Possible qs → Five qs → pictured_behind p s past qs ≡ pictured_behind q u past qs) where
  abbrev then : List Question
  then = past ++ (Survey, []) ∷ []

  asked : (c : Call) (buffer : List ℕ) → Callable c → Buffer buffer → OfPicture c → pictured_reply p s then (c, buffer) ≡ pictured_reply q u then (c, buffer)
  asked c buffer k b f = head_same (tail_same (hear ((Survey, []) ∷ (c, buffer) ∷ []) ((tt, empty), ((k, b), tt)) (tt, (f, tt))))

  outlines : Outlined p q
  outlines = same_outline p q (ap (λ (r : Reply). r.0) (head_same (hear ((Survey, []) ∷ []) ((tt, empty), tt) (tt, tt))))

  codes_same : p.codes ≡ q.codes
  codes_same = same_all 8 p.codes q.codes pp.codes-few pq.codes-few (λ k h. same_code (nth p.codes k) (nth q.codes k) (heard k h))
    where
      heard : (k : ℕ) → k < 8 → told_by code (code_of (nth p.codes k)) ≡ told_by code (code_of (nth q.codes k))
      heard k h = ap (λ (r : Reply). r.0) (subst (λ b. ◌≡◌ {A = Reply} (code_if_known b p (suc k), []) (code_if_known b q (suc k), [])) (surveyed-then past) (asked (Band (suc k)) [] (omega (arith, h)) empty tt))

  ident_same : p.ident ≡ q.ident
  ident_same =
      let heard = subst (λ b. delivery (if_known b (pictured_ident p 18)) (replicate 18 0) ≡ delivery (if_known b (pictured_ident q 18)) (replicate 18 0)) (surveyed-then past) (asked Ident (replicate 18 0) tt (zeros_are 18 (omega arith)) tt) in
      let same : ◌≡◌ {A = Delivery} (Ok p.ident) (Ok q.ident) = same_told (Ok p.ident) (Ok q.ident) 18 pp.ident_long pq.ident_long heard in cc

  line_same : (i j : ℕ) → i < length p.codes → j < p.lines → get_or (get_or p.rows i []) j None ≡ get_or (get_or q.rows i []) j None
  line_same i j h k =
      let band = get_or p.codes i 0 in
      let few = pp.lines_few in
      let sensors = outlines.sensor in
      let lines = outlines.lines in
      let codes = codes_same in
      let room = room_for p in
      let size = body_size p.sensor in
      let heard = subst (λ b. delivery (if_known b (pictured_line p band (j + 1) (length room))) room ≡ delivery (if_known b (pictured_line q band (j + 1) (length room))) room) (surveyed-then past) (asked (Line band (j + 1)) room (byte_at i p.codes pp.codes_bytes h, omega (arith, few, k)) (zeros_are size (size_few p.sensor)) tt) in
      let here = line_at p s pp i j h k in
      let there = ap (λ m. pictured_line q band (j + 1) (length {A = ℕ} (replicate (body_size m) 0))) sensors ∙ ap (λ cs. pictured_line q (get_or cs i 0) (j + 1) (length (room_for q))) codes ∙ line_at q u pq i j (subst (λ cs. i < length cs) codes h) (subst (λ n. j < n) lines k) in
      let x = get_or (get_or p.rows i []) j None in
      let y = get_or (get_or q.rows i []) j None in
      let rows_p = pp.rows_many in
      let rows_q = pq.rows_many in
      let many = ap length codes in
      let fx = line_fills size x ((row_at size p.lines i p.rows pp.rows_whole (omega (arith, rows_p, h))).1 j) in
      let fy = line_fills size y (subst (λ m. Sized (body_size m) y) (sym sensors) ((row_at (body_size q.sensor) q.lines i q.rows pq.rows_whole (omega (arith, rows_q, many, h))).1 j)) in
      same_line x y (same_told (line_or x) (line_or y) size fx fy (sym (ap (λ d. delivery d room) here) ∙ heard ∙ ap (λ d. delivery d room) there))

  rows_same : p.rows ≡ q.rows
  rows_same =
      let a = pp.rows_many in
      let b = pq.rows_many in
      let c = ap length codes_same in
      same_get [] p.rows q.rows (omega (arith, a, b, c)) (λ i h. row_same i h)
    where
      row_same : (i : ℕ) → i < length p.rows → get_or p.rows i [] ≡ get_or q.rows i []
      row_same i h =
          let a = pp.rows_many in
          let b = pq.rows_many in
          let c = ap length codes_same in
          let l = outlines.lines in
          let lp = (row_at (body_size p.sensor) p.lines i p.rows pp.rows_whole h).0 in
          let lq = (row_at (body_size q.sensor) q.lines i q.rows pq.rows_whole (omega (arith, a, b, c, h))).0 in
          same_get None (get_or p.rows i []) (get_or q.rows i []) (omega (arith, lp, lq, l)) (λ j w. line_same i j (omega (arith, a, h)) (omega (arith, lp, w)))

  pub pictures_same : p ≡ q
  pictures_same = same_pictures p q outlines.sensor outlines.mission outlines.correction ident_same codes_same outlines.lines rows_same

-- All six calls.
sheet_at : (p : Picture) (s : List Sheets) → Proper p s → (i kind k : ℕ) → i < length p.codes → pictured_sheet p s (get_or p.codes i 0) kind (suc k) (length (room_for p)) ≡ sheet_or (nth (of_kind (get_or s i no_sheets) kind) k) (body_size p.sensor) (body_size p.sensor)
sheet_at p s pr i kind k h =
    let at = own_place 0 0 i p.codes pr.codes_rise h in
    let z : 0 + i ≡ i = omega arith in
    let long = length-replicate {A = ℕ} (body_size p.sensor) 0 in
    ap (λ o. band_sheet p s o kind (suc k) (length (room_for p))) (at ∙ ap Some z)
    ∙ ap (sheet_or (nth (of_kind (get_or s i no_sheets) kind) k) (body_size p.sensor)) long

-- The lists of a kind.
record KindOf (size : ℕ) (bodies : List Body) : Type 0 where
  whole : Whole size bodies
  few : length bodies ≤ 300

kind_one : (size : ℕ) (s : Sheets) → Sheeted size s → KindOf size (of_kind s 1)
kind_one size s h = record { whole = (h.header_whole, tt); few = omega arith }

kind_two : (size : ℕ) (s : Sheets) → Sheeted size s → KindOf size (of_kind s 2)
kind_two size s h = record { whole = h.ancillaries_whole; few = h.ancillaries-few }

kind_three : (size : ℕ) (s : Sheets) → Sheeted size s → KindOf size (of_kind s 3)
kind_three size s h = record { whole = h.annotations_whole; few = h.annotations-few }

kind_four : (size : ℕ) (s : Sheets) → Sheeted size s → KindOf size (of_kind s 4)
kind_four size s h = record { whole = h.trailers_whole; few = h.trailers-few }

abbrev sheets_by : Body → List Body → List Body → List Body → Sheets
sheets_by a b c d = record { header = a; ancillaries = b; annotations = c; trailers = d }

same_four : (s u : Sheets) → of_kind s 1 ≡ of_kind u 1 → of_kind s 2 ≡ of_kind u 2 → of_kind s 3 ≡ of_kind u 3 → of_kind s 4 ≡ of_kind u 4 → s ≡ u
same_four s u a b c d =
    ap (λ k. sheets_by k s.ancillaries s.annotations s.trailers) (head_same a)
    ∙ ap (λ k. sheets_by u.header k s.annotations s.trailers) b
    ∙ ap (λ k. sheets_by u.header u.ancillaries k s.trailers) c
    ∙ ap (λ k. sheets_by u.header u.ancillaries u.annotations k) d

module _ (p q : Picture) (s u : List Sheets) (pp : Proper p s) (pq : Proper q u) (past : List Question) (hear : (qs : List Question) → Possible qs → pictured_behind p s past qs ≡ pictured_behind q u past qs) where
  abbrev after : List Question
  after = past ++ (Survey, []) ∷ []

  same_picture : p ≡ q
  same_picture = pictures_same p q s u pp pq past (λ qs k f. hear qs k)

  module _ (i : ℕ) (h : i < length p.codes) where
    abbrev here : Sheets
    here = get_or s i no_sheets

    abbrev there : Sheets
    there = get_or u i no_sheets

    abbrev size : ℕ
    size = body_size p.sensor

    band_there : i < length q.codes
    band_there = subst (λ (k : Picture). i < length k.codes) same_picture h

    sheeted_here : Sheeted size here
    sheeted_here = let m = pp.sheets_many in sheets_at size i s pp.sheets-whole (omega (arith, m, h))

    sheeted_there : Sheeted size there
    sheeted_there = let m = pq.sheets_many in let b = band_there in subst (λ (k : Picture). Sheeted (body_size k.sensor) there) (sym same_picture) (sheets_at (body_size q.sensor) i u pq.sheets-whole (omega (arith, m, b)))

    kind_same : (kind : ℕ) → kind < 256 → KindOf size (of_kind here kind) → KindOf size (of_kind there kind) → of_kind here kind ≡ of_kind there kind
    kind_same kind byte a b = same_all 300 (of_kind here kind) (of_kind there kind) a.few b.few (λ k w. one k w)
      where
        one : (k : ℕ) → k < 300 → nth (of_kind here kind) k ≡ nth (of_kind there kind) k
        one k w =
            let band = get_or p.codes i 0 in
            let room = room_for p in
            let call = Sheet band kind (suc k) in
            let reply = head_same (tail_same (hear ((Survey, []) ∷ (call, room) ∷ []) ((tt, empty), (((byte_at i p.codes pp.codes_bytes h, (byte, omega (arith, w))), zeros_are size (size_few p.sensor)), tt)))) in
            let heard = subst (λ t. delivery (if_known t (pictured_sheet p s band kind (suc k) (length room))) room ≡ delivery (if_known t (pictured_sheet q u band kind (suc k) (length room))) room) (surveyed-then past) reply in
            let x = nth (of_kind here kind) k in
            let y = nth (of_kind there kind) k in
            let left = sheet_at p s pp i kind k h in
            let right : pictured_sheet q u band kind (suc k) (length room) ≡ sheet_or y size size =
            ap (λ (m : Picture). pictured_sheet q u (get_or m.codes i 0) kind (suc k) (length (room_for m))) same_picture
            ∙ sheet_at q u pq i kind k band_there
            ∙ ap (λ (m : Picture). sheet_or y (body_size m.sensor) (body_size m.sensor)) (sym same_picture) in
            same_sheet size x y (same_told (sheet_or x size size) (sheet_or y size size) size (whole-nth size k (of_kind here kind) a.whole x refl) (whole-nth size k (of_kind there kind) b.whole y refl) (sym (ap (λ e. delivery e room) left) ∙ heard ∙ ap (λ e. delivery e room) right))

    sheet_same : here ≡ there
    sheet_same =
        same_four here there
        (kind_same 1 (omega arith) (kind_one size here sheeted_here) (kind_one size there sheeted_there))
        (kind_same 2 (omega arith) (kind_two size here sheeted_here) (kind_two size there sheeted_there))
        (kind_same 3 (omega arith) (kind_three size here sheeted_here) (kind_three size there sheeted_there))
        (kind_same 4 (omega arith) (kind_four size here sheeted_here) (kind_four size there sheeted_there))

  pub both_same : (p ≡ q) × (s ≡ u)
  both_same =
      let a = pp.sheets_many in
      let b = pq.sheets_many in
      let c = ap (λ (k : Picture). length k.codes) same_picture in
      (same_picture, same_get no_sheets s u (omega (arith, a, b, c)) (λ i h. sheet_same i (omega (arith, a, h))))
