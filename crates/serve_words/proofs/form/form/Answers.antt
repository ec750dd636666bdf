use Rattle.std.proofs.Common.{◌≡◌, [], ◌∙◌, true, ap}
use Rattle.std.specs.Prelude.{codes}
use Rattle.clap.specs.Simple.{App, app_of, app_of_fields, new_shape, on_top}
use Rattle.serve_words.specs.Form.{flag_rule, number_rule, path_rule, serve_form, words_rule}
use Rattle.serve_words.proofs.Forms.{adds}
use Rattle.serve_words.proofs.form.form.Goals as goal

abbrev bare : App
bare = record {
  top = record (new_shape (codes "docportal serve")) { has_version = true; no_binary_name = true };
  subs = [];
}

pub returns : goal.returns
unfolding serve_form
returns c =
    let version : app_of c.version.result ≡ on_top (λ s. record s { has_version = true }) (app_of c.new.result) = ap app_of_fields c.version.ensures in
    let about : app_of c.about.result ≡ app_of c.version.result = ap app_of_fields c.about.ensures in
    let after : app_of c.after_help.result ≡ app_of c.about.result = ap app_of_fields c.after_help.ensures in
    let unnamed : app_of c.no_binary_name.result ≡ on_top (λ s. record s { no_binary_name = true }) (app_of c.after_help.result) = ap app_of_fields c.no_binary_name.ensures in
    let none : app_of c.no_binary_name.result ≡ bare =
    unnamed ∙ ap (on_top (λ s. record s { no_binary_name = true })) (after ∙ (about ∙ (version ∙ ap (on_top (λ s. record s { has_version = true })) c.new.ensures.app))) in
    let root = adds c.no_binary_name.result c.in_ok-arg.field-0 c.folder.result bare (path_rule (codes "root")) c.in_ok-arg.ensures c.folder.ensures.own c.folder.ensures.rule none in
    let store = adds c.in_ok-arg.field-0 c.in_ok-arg-2.field-0 c.folder-2.result _ (path_rule (codes "store")) c.in_ok-arg-2.ensures c.folder-2.ensures.own c.folder-2.ensures.rule root in
    let sockets = adds c.in_ok-arg-2.field-0 c.in_ok-arg-3.field-0 c.folder-3.result _ (path_rule (codes "sockets")) c.in_ok-arg-3.ensures c.folder-3.ensures.own c.folder-3.ensures.rule store in
    let workers = adds c.in_ok-arg-3.field-0 c.in_ok-arg-4.field-0 c.number.result _ (number_rule (codes "workers") (codes "2")) c.in_ok-arg-4.ensures c.number.ensures.own c.number.ensures.rule sockets in
    let history = adds c.in_ok-arg-4.field-0 c.in_ok-arg-5.field-0 c.number-2.result _ (number_rule (codes "history") (codes "536870912")) c.in_ok-arg-5.ensures c.number-2.ensures.own c.number-2.ensures.rule workers in
    let polled = adds c.in_ok-arg-5.field-0 c.in_ok-arg-6.field-0 c.flag.result _ (flag_rule (codes "polled")) c.in_ok-arg-6.ensures c.flag.ensures.own c.flag.ensures.rule history in
    adds c.in_ok-arg-6.field-0 c.in_ok-command.command c.apps.result _ (words_rule (codes "app")) c.in_ok-command.ensures c.apps.ensures.own c.apps.ensures.rule polled
