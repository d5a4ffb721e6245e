-- The theory of the two phases; docs/PROOF.md walks through it. Numbers of lemmas are those of Irving and Manlove.

-- Lists and matchings as functions, one proposal, and what holds between proposals.
pub mod Basics
pub mod Proposals
pub mod StrikesCompose
pub mod OnTrim
pub mod Pigeonhole
-- Phase one, for any order of proposals.
pub mod InvariantStart
pub mod InvariantStep
pub mod Survives
pub mod ReceivedEmpty
pub mod Heads
pub mod Confluence
pub mod SameJoints
-- Tables, and the trials of phase two.
pub mod Tables
pub mod PhaseEndIsTable
pub mod TrialKeepsTable
pub mod SingleListsAreStable
pub mod TrialKeepsMatching
pub mod OverAndLost
pub mod MatchingInTable
-- The definitions over one list and over the square, as facts.
pub mod Rows
pub mod FirstOn
pub mod Strikes
pub mod Sound
pub mod HasList
pub mod Trims
pub mod Waiting
pub mod Emptied
pub mod NoneEmptied
pub mod SuperStable
-- Their steps and runs are those of the theory.
pub mod States
pub mod Proposed
pub mod StepProposals
pub mod Steps
pub mod Running
pub mod RunsKeep
-- What a run's history says of proposals.
pub mod HistoriesReached
pub mod Histories
pub mod CountsAsSaid
-- What is counted and written.
pub mod EntryCounts
pub mod EntriesWritten
pub mod EntriesListed
pub mod PairsWritten
pub mod FewProposals
pub mod CutsStrike
-- How workings end: every one is a run, its fuel lasts, which choices it refuses, and what is done where they have run out.
pub mod FuelLasts
pub mod Stages
pub mod Longest
pub mod Arrivals
pub mod WorkingsEnd
pub mod RuleInOne
pub mod ChoicesRefused
pub mod RuleSaid
-- What the ends of the phases say, and so the demands.
pub mod PhaseOneEnds
pub mod EndsAgree
pub mod TrialsOfTables
pub mod CutsOfTables
pub mod PhaseTwoEnds
pub mod Verdicts
pub mod PairedAlike
pub mod Shortenings
pub mod Demands
