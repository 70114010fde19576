use Rattle.std.proofs.Common.{◌≡◌, ◌∙◌, None, Some, sym, ap}
use Rattle.std.specs.Prelude.{slice_get}
use Rattle.dc_base.specs.Links.{all_links}
use Rattle.made_scripts.specs.Draws.{drawn, next_state}
use Rattle.made_scripts.specs.Turns.{loaded_count, loaded_of, step_on, step_on_drawn, turn}
use Rattle.made_turns.proofs.Loaded.{none_loaded, some_loaded}
use Rattle.made_turns.proofs.stepping.drawn_step.Goals as goal

pub returns-then-loaded-eq0 : goal.returns-then-loaded-eq0
returns-then-loaded-eq0 c =
    let none : loaded_count c.args.network.now.links all_links ≡ 0 = cc in
    sym (none_loaded c.args.network.now.links c.args.draws.now none)

pub returns-in_err-link : goal.returns-in_err-link
returns-in_err-link c =
    let links = c.args.network.now.links in
    let next = next_state c.args.draws.now in
    let count : c.count_loaded-loaded.result ≡ loaded_count links all_links = cc in
    let found : slice_get (loaded_of links all_links) (drawn next (loaded_count links all_links)) ≡ None = cc (c.loaded_at.ensures.link, c.in_err-link.was) in
    let drawn_now : c.draw.new.self ≡ next = c.draw.ensures.after in
    let nothing : c.from_residual.result ≡ None = cc (c.from_residual.ensures) in
    ap (λ e. turn e c.draw.new.self) nothing ∙ ap (turn None) drawn_now
    ∙ sym (some_loaded links c.args.draws.now (λ none. c.if-loaded-eq0.false (count ∙ none)) ∙ ap (step_on_drawn links next) found)

pub returns : goal.returns
returns c =
    let links = c.args.network.now.links in
    let next = next_state c.args.draws.now in
    let count : c.count_loaded-loaded.result ≡ loaded_count links all_links = cc in
    let found : slice_get (loaded_of links all_links) (drawn next (loaded_count links all_links)) ≡ Some c.in_ok-link.link = cc (c.loaded_at.ensures.link, c.in_ok-link.was) in
    let drawn_now : c.draw.new.self ≡ next = c.draw.ensures.after in
    c.step_on.ensures ∙ ap (λ d. step_on links d c.in_ok-link.link) drawn_now
    ∙ sym (some_loaded links c.args.draws.now (λ none. c.if-loaded-eq0.false (count ∙ none)) ∙ ap (step_on_drawn links next) found)
