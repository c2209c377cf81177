use Rattle.std.proofs.Common.{rules, ◌≡◌, ℕ, List, Ok, Err, codes, subst}
use Rattle.mp_ports.specs.Folder.{Opens}
use Rattle.mp_words.specs.Names.{beside}
use Rattle.mp4edit.specs.Opening.{Finds, FindsFor}
use Rattle.mp4edit.proofs.Pairs.{info_stops, media_stops, memory_behind_media, memory_behind_table, pair_named, pair_opens}
use Rattle.mp4edit.proofs.pair.open_pair.Goals as goal

pub returns-in_default-clause-folder : goal.returns-in_default-clause-folder
returns-in_default-clause-folder g c =
    let name = c.args.name.now in
    memory_behind_table _ _ name (beside name (codes ".media")) (beside name (codes ".info")) c.in-Ok.table c.in-Ok.ensures

pub returns-in-Err-find_for-clause-folder : goal.returns-in-Err-find_for-clause-folder
returns-in-Err-find_for-clause-folder g c =
    let name = c.args.name.now in
    let t = g.F.Folder.state c.find_for.new.folder in
    let u = g.F.Folder.state c.find_for-2.new.folder in
    let is : c.deref.result.now ≡ beside name (codes ".media") = search rules in
    media_stops _ t u name (beside name (codes ".media")) (beside name (codes ".info")) c.in-Ok.table c.args.command c.in-Err-find_for.stop c.in-Ok.ensures
    (subst (λ (n : List ℕ). FindsFor c.args.command (Err c.in-Err-find_for.stop) t u n) is c.in-Err-find_for.ensures)

pub returns-in_default-beside-clause-folder : goal.returns-in_default-beside-clause-folder
returns-in_default-beside-clause-folder g c =
    let name = c.args.name.now in
    let t = g.F.Folder.state c.find_for.new.folder in
    let u = g.F.Folder.state c.find_for-2.new.folder in
    let is : c.deref.result.now ≡ beside name (codes ".media") = search rules in
    memory_behind_media _ t u name (beside name (codes ".media")) (beside name (codes ".info")) c.in-Ok.table c.in-Ok-find_for.media c.in-Ok.ensures
    (subst (λ (n : List ℕ). Opens t u n c.in-Ok-find_for.media) is c.in-Ok-find_for.ensures)

pub returns-in-Ok-find-clause-pair : goal.returns-in-Ok-find-clause-pair
returns-in-Ok-find-clause-pair g c =
    let name = c.args.name.now in
    let t = g.F.Folder.state c.find_for.new.folder in
    let u = g.F.Folder.state c.find_for-2.new.folder in
    let v = g.F.Folder.state c.find.new.folder in
    let is : c.deref.result.now ≡ beside name (codes ".media") = search rules in
    let info_is : c.deref-2.result.now ≡ beside name (codes ".info") = search rules in
    pair_named _ t u v name c.in-Ok.table c.in-Ok-find_for.media c.in-Ok-find.info c.in-Ok.ensures
    (subst (λ (n : List ℕ). Opens t u n c.in-Ok-find_for.media) is c.in-Ok-find_for.ensures)
    (subst (λ (n : List ℕ). Finds (Ok c.in-Ok-find.info) u v n) info_is c.in-Ok-find.ensures)

pub returns-in-Ok-find-clause-folder : goal.returns-in-Ok-find-clause-folder
returns-in-Ok-find-clause-folder g c =
    let name = c.args.name.now in
    let t = g.F.Folder.state c.find_for.new.folder in
    let u = g.F.Folder.state c.find_for-2.new.folder in
    let v = g.F.Folder.state c.find.new.folder in
    let is : c.deref.result.now ≡ beside name (codes ".media") = search rules in
    let info_is : c.deref-2.result.now ≡ beside name (codes ".info") = search rules in
    pair_opens _ t u v name (beside name (codes ".media")) (beside name (codes ".info")) c.in-Ok.table c.in-Ok-find_for.media c.in-Ok-find.info _ c.in-Ok.ensures
    (subst (λ (n : List ℕ). Opens t u n c.in-Ok-find_for.media) is c.in-Ok-find_for.ensures)
    (subst (λ (n : List ℕ). Finds (Ok c.in-Ok-find.info) u v n) info_is c.in-Ok-find.ensures)

pub returns-clause-folder : goal.returns-clause-folder
returns-clause-folder g c =
    let name = c.args.name.now in
    let t = g.F.Folder.state c.find_for.new.folder in
    let u = g.F.Folder.state c.find_for-2.new.folder in
    let v = g.F.Folder.state c.find.new.folder in
    let is : c.deref.result.now ≡ beside name (codes ".media") = search rules in
    let info_is : c.deref-2.result.now ≡ beside name (codes ".info") = search rules in
    info_stops _ t u v name (beside name (codes ".media")) (beside name (codes ".info")) c.in-Ok.table c.in-Ok-find_for.media c.in-Err-find.stop c.in-Ok.ensures
    (subst (λ (n : List ℕ). Opens t u n c.in-Ok-find_for.media) is c.in-Ok-find_for.ensures)
    (subst (λ (n : List ℕ). Finds (Err c.in-Err-find.stop) u v n) info_is c.in-Err-find.ensures)
