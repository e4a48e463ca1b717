mod FileLaws
mod HaveCodeLaws
mod PassedLaws
